use Rattle.std.specs.Prelude.{ℕ, suc, ◌+◌, ◌-◌, cond, nat_le, nat_abs, List, [], ◌∷◌, ◌++◌, take, drop, length}
use Rattle.dt_kinds.specs.declared.kind.Rep.{Rep}
use Rattle.dt_kinds.specs.Kind.{packed_size}
use Rattle.dt_kinds.specs.Image.{restore}
use Rattle.dt_map.specs.declared.entry.Entry.{Entry}

-- how many leading elements have all their packed bytes among the first n (law `done_is_greatest`)
abbrev pub done : Rep → List Entry → ℕ → ℕ
done rep [] n = 0
done rep (e ∷ es) n = cond (nat_le (packed_size rep e.kind) n) (suc (done rep es (n - packed_size rep e.kind))) 0

-- a buffer whose bytes from a place on are these
abbrev pub written : List ℕ → ℕ → List ℕ → List ℕ
written buffer at bytes = take at buffer ++ (bytes ++ drop (at + length bytes) buffer)

-- a buffer in which an element has the bytes that its image stands for
abbrev pub set_one : Rep → Entry → List ℕ → List ℕ → List ℕ
set_one rep e buffer packed = written buffer (nat_abs e.disp) (restore rep e.kind packed)

-- a buffer in which each element has the bytes that its image stands for, where the images stand one after another
abbrev pub set_each : Rep → List Entry → List ℕ → List ℕ → List ℕ
set_each rep [] buffer images = buffer
set_each rep (e ∷ es) buffer images = set_each rep es (set_one rep e buffer (take (packed_size rep e.kind) images)) (drop (packed_size rep e.kind) images)

-- the buffer after the elements numbered f .. k, without k, were set (MPI 4.1, section 5.2); no other byte changes
abbrev pub set : Rep → List Entry → List ℕ → ℕ → ℕ → List ℕ → List ℕ
set rep es buffer f k images = set_each rep (take (k - f) (drop f es)) buffer images
