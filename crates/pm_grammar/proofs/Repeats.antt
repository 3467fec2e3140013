-- The reader of entries with nothing between them.
use Rattle.std.proofs.Common.{◌≡◌, ◌≤◌, ℕ, zero, suc, Bool, true, false, List, [], ◌∷◌, ◌++◌, length, Ok, refl, arith, nat_le, if◌then◌else◌}
use Rattle.pm_lexer.specs.declared.token.Token.{Token}
use Rattle.pm_grammar.specs.Reading.{too_many, Read, ◌>>=◌, place_of, sees, entry_at}
use Rattle.pm_grammar.specs.Steps.{more_at}
use Rattle.pm_grammar.proofs.Phrases.{Phrase, Law, Reader, Nothing}
use Rattle.pm_grammar.proofs.Readers.{same_law, first_law, second_law, pure_reader}
use Rattle.pm_grammar.proofs.Lists.{Some, ThenSome, some_law, Peek, Further, More, Entry, None, further_same, further_able, entry_same, past_law}
use Rattle.pm_grammar.proofs.Furthers.{NoEntry, shorter, seen_head, none_seen, past, not_past, Refused, refused_bind}

-- nothing, as a separator
abbrev pub Empty : Phrase (Unit {0})
Empty d g next = next tt

stops_law : {A : Type 0} (T : Token → Type 0) (P : Phrase A) (limit d : ℕ) (before : List A) (ts : List Token) → NoEntry P ts → Law T (Further limit Empty (λ _. P) before) d ts (Ok (before, ts))
stops_law T P limit d before ts none =
    same_law T _ _ d ts (Ok (before, ts)) (further_same limit Empty (λ _. P) before)
    (first_law T (None before) (ThenSome Empty (Entry limit Empty (λ _. P) before)) d ts (Ok (before, ts)) (λ d' g next w avoids heads h. none d' g _ w heads h.1.1) ((pure_reader T d before).law ts))

pub repeat_law : {A : Type 0} (T : Token → Type 0) (P : Phrase A) (starts : Token → Bool) (peek : List Token → Read Token) (limit d : ℕ) (p : List Token → Read A) → Reader Nothing P d p → Peek Nothing P d peek
    → ((ts : List Token) → sees starts ts ≡ false → NoEntry P ts) → ((t : Token) → starts t ≡ true → T t) → (m : ℕ) (before : List A) (ts : List Token) → length ts ≤ m
    → Law T (Further limit Empty (λ _. P) before) d ts (more_at starts (λ r. Ok (tt {0}, r)) peek (λ _. p) limit m before ts)
unfolding more_at
repeat_law T P starts peek limit d p reads looks none inT zero before ts le = stops_law T P limit d before ts (none ts (none_seen _ ts le))
repeat_law {A} T P starts peek limit d p reads looks none inT (suc m) before ts le =
    let q : A × List Token → Read (List A) = λ a. more_at starts (λ r. Ok (tt {0}, r)) peek (λ _. p) limit m (before ++ a.0 ∷ []) a.1 in
    elim (sees starts ts) as (λ b. sees starts ts ≡ b → Law T (Further limit Empty (λ _. P) before) d ts (if b then (entry_at (nat_le limit (length before)) peek p ts >>= q) else Ok (before, ts))) [
      | true ↦ λ e.
          elim (nat_le limit (length before)) as (λ b. nat_le limit (length before) ≡ b → Law T (Further limit Empty (λ _. P) before) d ts (entry_at b peek p ts >>= q)) [
            | true ↦ λ f. rw (refused_bind {A = A} (peek ts) (too_many (place_of ts)) q) (begins ts (Refused {A = List A} (peek ts) (too_many (place_of ts))) e
                (past_law T Nothing limit Empty (λ _. P) before tt d peek (λ t s. absurd s) (λ d' g next t us s h. s) looks reads.able (past limit (length before) f) ts (peek ts) refl))
            | false ↦ λ f. begins ts (p ts >>= q) e
                (same_law T _ _ d ts (p ts >>= q) (entry_same limit Empty (λ _. P) before tt (not_past limit (length before) f))
                (some_law T Nothing P (More limit Empty (λ _. P) before) d ts (p ts) q (reads.law ts)
                (λ a r er. repeat_law T P starts peek limit d p reads looks none inT m (before ++ a ∷ []) r (let less = shorter P d (none [] refl) ts (a, r) (rw er at (reads.law ts)) in omega arith))
                (λ a. further_able limit Empty (λ _. P) (before ++ a ∷ []) d) (λ a d' g next avoids t us s h. s)))
          ] refl
      | false ↦ λ e. stops_law T P limit d before ts (none ts e)
    ] refl
  where
    begins : (ts : List Token) (r : Read (List A)) → sees starts ts ≡ true → Law T (Some (Entry limit Empty (λ _. P) before) tt) d ts r → Law T (Further limit Empty (λ _. P) before) d ts r
    begins ts r e l =
        same_law T _ _ d ts r (further_same limit Empty (λ _. P) before)
        (second_law T (None before) (ThenSome Empty (Entry limit Empty (λ _. P) before)) d ts r (λ d' g next w avoids heads h. seen_head T starts ts w next before e inT avoids heads h) l)
