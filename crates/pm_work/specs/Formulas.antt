-- the upper bounds of rows, as functions of what stands at an operator and at its sides
use Rattle.std.specs.Prelude.{ℕ, ◌+◌, ◌-◌, ◌*◌, Bool, true, false, List, [], ◌∷◌, min, max}
use Rattle.pm_plan.specs.declared.plan.Unique.{Unique}
use Rattle.pm_plan.specs.declared.gauge.Gauge.{Gauge}
use Rattle.pm_plan.specs.Tree.{Unary, Filter, Project, Sort, Group, Method, Hash, Merge}

-- sums and products: the exact ones, and those that stop at a greatest number
pub record Arithmetic : Type 0 where
  pub plus : ℕ → ℕ → ℕ
  pub times : ℕ → ℕ → ℕ

abbrev pub exact : Arithmetic
exact = record { plus = λ a b. a + b; times = λ a b. a * b }

abbrev pub up_to : ℕ → Arithmetic
up_to top = record { plus = λ a b. min top (a + b); times = λ a b. min top (a * b) }

-- a side of an operator: the rows that it has handed out, and an upper bound of all its rows
pub record Side : Type 0 where
  pub count : ℕ
  pub hi : ℕ

-- the rows that it may still hand out
abbrev pub unread : Side → ℕ
unread side = side.hi - side.count

-- at most the cap where the flag is set
abbrev pub capped_if : Bool → ℕ → ℕ → ℕ
capped_if true cap x = min cap x
capped_if false cap x = x

-- of a group with these keys
abbrev pub group_hi : Arithmetic → List ℕ → ℕ → Side → ℕ
group_hi n [] settled child = 1
group_hi n (key ∷ keys) settled child = n.plus settled (unread child)

-- of an operator over a child
abbrev pub hi_over : Arithmetic → Unary → Gauge → Side → ℕ
hi_over n (Filter cond) g child = n.plus g.settled (unread child)
hi_over n (Project columns) g child = child.hi
hi_over n (Sort keys) g child = child.hi
hi_over n (Group keys items) g child = group_hi n keys g.settled child

-- of the pairs of two sides: a left row that is still to come may pair with each right row, and each left row that was read with each
-- right row that is still to come
abbrev pub pairs_hi : Arithmetic → Unique → Gauge → Side → Side → ℕ
pairs_hi n unique g L R =
    capped_if unique.right L.hi
    (capped_if unique.left R.hi (n.plus g.settled (n.plus (n.times (unread L) R.hi) (n.times L.count (unread R)))))

-- the most right rows that one left row can match, from the most that one key has so far
abbrev pub most_matches : Arithmetic → Unique → Gauge → Side → ℕ
most_matches n unique g R = capped_if unique.right 1 (n.plus g.worst (unread R))

-- of a hash join: also, each left row that is still to come pairs with at most as many right rows as one key has
abbrev pub hash_hi : Arithmetic → Unique → Gauge → Side → Side → ℕ
hash_hi n unique g L R = min (pairs_hi n unique g L R) (n.plus g.settled (n.times (unread L) (most_matches n unique g R)))

-- of a hash join that pads: each left row that is still to come gives a row at least; where the left side is unique, each right row is
-- paired once at most, and each left row padded once
abbrev pub padded_hi : Arithmetic → Unique → Gauge → Side → Side → ℕ
padded_hi n unique g L R =
    capped_if unique.left (n.plus L.hi R.hi) (n.plus g.settled (n.times (unread L) (max 1 (most_matches n unique g R))))

abbrev pub hi_joined : Arithmetic → Method → Unique → Gauge → Side → Side → ℕ
hi_joined n (Hash false) unique g L R = hash_hi n unique g L R
hi_joined n (Hash true) unique g L R = padded_hi n unique g L R
hi_joined n Merge unique g L R = pairs_hi n unique g L R

-- of a Seek: each left row that is still to come finds at most as many rows as one key has
abbrev pub seek_hi : Arithmetic → Unique → Gauge → Side → ℕ
seek_hi n unique g L = capped_if unique.left g.size (n.plus g.settled (n.times (unread L) g.worst))

-- of an Index, whose rows are some of those of its Seek
abbrev pub index_hi : Arithmetic → Gauge → Side → ℕ
index_hi n g seek = n.plus g.settled (unread seek)
