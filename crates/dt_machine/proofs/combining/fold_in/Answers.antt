use Rattle.std.proofs.lemmas.Int.{to_z-of_z}
use Rattle.std.specs.Int.{w64}
use Rattle.dt_machine.proofs.combining.fold_in.Goals as goal

pub returns-in-Sum-clause-ok : goal.returns-in-Sum-clause-ok
returns-in-Sum-clause-ok c = λ held here. rw c.in-Sum.is (simp (to_z-of_z w64 c.args.origin c.ranges.origin) at (c.fold_by.ensures.ok held here))

pub returns-in-Prod-clause-ok : goal.returns-in-Prod-clause-ok
returns-in-Prod-clause-ok c = λ held here. rw c.in-Prod.is (simp (to_z-of_z w64 c.args.origin c.ranges.origin) at (c.fold_by-in-Prod.ensures.ok held here))

pub returns-in-Min-clause-ok : goal.returns-in-Min-clause-ok
returns-in-Min-clause-ok c = λ held here. rw c.in-Min.is (simp (to_z-of_z w64 c.args.origin c.ranges.origin) at (c.fold_by-in-Min.ensures.ok held here))

pub returns-in-Max-clause-ok : goal.returns-in-Max-clause-ok
returns-in-Max-clause-ok c = λ held here. rw c.in-Max.is (simp (to_z-of_z w64 c.args.origin c.ranges.origin) at (c.fold_by-in-Max.ensures.ok held here))

pub returns-in-And-clause-ok : goal.returns-in-And-clause-ok
returns-in-And-clause-ok c = λ held here. rw c.in-And.is (simp (to_z-of_z w64 c.args.origin c.ranges.origin) at (c.fold_by-in-And.ensures.ok held here))

pub returns-in-Or-clause-ok : goal.returns-in-Or-clause-ok
returns-in-Or-clause-ok c = λ held here. rw c.in-Or.is (simp (to_z-of_z w64 c.args.origin c.ranges.origin) at (c.fold_by-in-Or.ensures.ok held here))

pub returns-in-Xor-clause-ok : goal.returns-in-Xor-clause-ok
returns-in-Xor-clause-ok c = λ held here. rw c.in-Xor.is (simp (to_z-of_z w64 c.args.origin c.ranges.origin) at (c.fold_by-in-Xor.ensures.ok held here))

pub returns-in-First-clause-ok : goal.returns-in-First-clause-ok
returns-in-First-clause-ok c = λ held here. rw c.in-First.is (simp (to_z-of_z w64 c.args.origin c.ranges.origin) at (c.fold_by-in-First.ensures.ok held here))

pub returns-in-Last-clause-ok : goal.returns-in-Last-clause-ok
returns-in-Last-clause-ok c = λ held here. rw c.in-Last.is (simp (to_z-of_z w64 c.args.origin c.ranges.origin) at (c.fold_by-in-Last.ensures.ok held here))
