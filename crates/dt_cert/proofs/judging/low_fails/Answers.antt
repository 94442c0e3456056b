use Rattle.dt_cert.proofs.judging.low_fails.Goals as goal

pub returns-in-Segments : goal.returns-in-Segments
returns-in-Segments c = rw c.in-Segments.is (rw c.deref.ensures.value at c.first_failing.ensures)

pub returns-in-Classes : goal.returns-in-Classes
returns-in-Classes c = rw c.in-Classes.is (rw c.deref-in-Classes.ensures.value at c.first_failing_of_classes.ensures)
