-- Runs of bytes at the head of a text.
use Rattle.std.proofs.Common.{◌≡◌, ◌+◌, ℕ, suc, Bool, true, false, not, List, [], ◌∷◌, ◌++◌, length, take, drop, cond, refl, ap, arith}
use Rattle.std.specs.List.{prefix_len, list_all, filter}
use Rattle.std.proofs.lemmas.Bool.{and_parts, and_from, not-true}

-- what stands first passes the test, where anything stands
abbrev pub Follows : (ℕ → Bool) → List ℕ → Type 0
Follows p [] = Unit {0}
Follows p (b ∷ rest) = p b ≡ true

pub all_head : (p : ℕ → Bool) (x : ℕ) (xs : List ℕ) → list_all p (x ∷ xs) ≡ true → p x ≡ true
all_head p x xs all = (and_parts (p x) (list_all p xs) all).0

pub all_tail : (p : ℕ → Bool) (x : ℕ) (xs : List ℕ) → list_all p (x ∷ xs) ≡ true → list_all p xs ≡ true
all_tail p x xs all = (and_parts (p x) (list_all p xs) all).1

pub all_both : (p : ℕ → Bool) (x : ℕ) (xs : List ℕ) → p x ≡ true → list_all p xs ≡ true → list_all p (x ∷ xs) ≡ true
all_both p x xs here all = and_from (p x) (list_all p xs) here all

-- a run ends where a byte follows that does not pass
pub run_whole : (p : ℕ → Bool) (xs rest : List ℕ) → list_all p xs ≡ true → Follows (λ b. not (p b)) rest → prefix_len p (xs ++ rest) ≡ length xs
run_whole p [] [] all ends = refl
run_whole p [] (b ∷ rest) all ends = rw (not-true (p b) ends) refl
run_whole p (x ∷ xs) rest all ends =
    let ih = run_whole p xs rest (all_tail p x xs all) ends in
    rw (all_head p x xs all) (omega (arith, ih))

-- the run at the head of a text passes
pub run_all : (p : ℕ → Bool) (xs : List ℕ) → list_all p (take (prefix_len p xs) xs) ≡ true
run_all p [] = refl
run_all p (x ∷ xs) =
    elim (p x) as (λ b. p x ≡ b → list_all p (take (cond b (1 + prefix_len p xs) 0) (x ∷ xs)) ≡ true) [
      | true ↦ λ e. let one : 1 + prefix_len p xs ≡ suc (prefix_len p xs) = omega arith in rw one (all_both p x (take (prefix_len p xs) xs) e (run_all p xs))
      | false ↦ λ e. refl
    ] refl

-- and what stands after it does not
pub run_ends : (p : ℕ → Bool) (xs : List ℕ) → Follows (λ b. not (p b)) (drop (prefix_len p xs) xs)
run_ends p [] = tt
run_ends p (x ∷ xs) =
    elim (p x) as (λ b. p x ≡ b → Follows (λ b. not (p b)) (drop (cond b (1 + prefix_len p xs) 0) (x ∷ xs))) [
      | true ↦ λ e. let one : 1 + prefix_len p xs ≡ suc (prefix_len p xs) = omega arith in rw one (run_ends p xs)
      | false ↦ λ e. rw e refl
    ] refl

pub filter_all : (p : ℕ → Bool) (xs : List ℕ) → list_all p xs ≡ true → filter p xs ≡ xs
filter_all p [] all = refl
filter_all p (x ∷ xs) all = rw (all_head p x xs all) (ap (λ t. x ∷ t) (filter_all p xs (all_tail p x xs all)))

-- a text goes on with what follows
pub follows_append : (p : ℕ → Bool) (xs rest : List ℕ) → Follows p xs → Follows p rest → Follows p (xs ++ rest)
follows_append p [] rest first after = after
follows_append p (x ∷ xs) rest first after = first

pub follows_weaker : (p q : ℕ → Bool) → ((b : ℕ) → p b ≡ true → q b ≡ true) → (rest : List ℕ) → Follows p rest → Follows q rest
follows_weaker p q weaker [] first = tt
follows_weaker p q weaker (b ∷ rest) first = weaker b first
