use Rattle.std.proofs.Common.{◌≡◌, ℕ, zero, suc, ◌+◌, ◌*◌, ◌<◌, ◌≤◌, Bool, true, false, nat_le, if◌then◌else◌, refl, arith}
use Rattle.std.proofs.lemmas.Bool.{leb-true, leb-false}
use Rattle.pm_fraction.specs.Root.{IsRoot, root}

-- one more gives a greater square
square_rises : (g : ℕ) → (g + 1) * (g + 1) < (g + 1 + 1) * (g + 1 + 1)
square_rises g = grind arith

-- of two numbers the next square of the less is at most the square of the greater
pub next_square_within : (g h : ℕ) → g < h → (g + 1) * (g + 1) ≤ h * h
next_square_within g h less = grind arith

-- the step of the function keeps the relation
step_is : (p g : ℕ) (reached : Bool) → nat_le ((g + 1) * (g + 1)) (suc p) ≡ reached → IsRoot g p →
    IsRoot (if reached then g + 1 else g) (suc p)
step_is p g true reached is =
    let within : (g + 1) * (g + 1) ≤ suc p = leb-true _ _ reached in
    let rises : (g + 1) * (g + 1) < (g + 1 + 1) * (g + 1 + 1) = square_rises g in
    record { square_within = within; next_square_beyond = omega arith }
step_is p g false missed is =
    let beyond : suc p < (g + 1) * (g + 1) = leb-false _ _ missed in
    record { square_within = omega arith; next_square_beyond = beyond }

-- the function gives a root of each number
pub root-is : (p : ℕ) → IsRoot (root p) p
unfolding root
root-is zero = record { square_within = omega arith; next_square_beyond = omega arith }
root-is (suc p) = step_is p (root p) _ refl (root-is p)

-- a number has one root
root_within : (g h p : ℕ) → IsRoot g p → IsRoot h p → g ≤ h
root_within g h p left right = grind (arith, next_square_within h g)

pub root-only : (g p : ℕ) → IsRoot g p → g ≡ root p
root-only g p is =
    let up : g ≤ root p = root_within g (root p) p is (root-is p) in
    let down : root p ≤ g = root_within (root p) g p (root-is p) is in
    omega arith
