-- What stops one reading stops another.
use Rattle.std.proofs.Common.{◌≡◌, List, Result, Err, refl}
use Rattle.pm_lexer.specs.declared.token.Token.{Token}
use Rattle.pm_grammar.specs.Reading.{Stop, expected, too_deep, too_many, Read, ◌>>=◌}
use Rattle.pm_grammar.specs.Outcome.{Fails}
use Rattle.pm_grammar.specs.declared.fault.SynBad.{SynBad}
use Rattle.pm_grammar.specs.declared.fault.SynBad.TheVariants as bad

pub fails_through : {A B : Type 0} (e : SynBad) (r : Result A Stop) (s : Result B Stop) → ((stop : Stop) → r ≡ Err stop → s ≡ Err stop) → Fails e r → Fails e s
fails_through bad.Memory r s h f = tt
fails_through (bad.Expected at) r s h f = h (expected at) f
fails_through (bad.TooDeep at) r s h f = h (too_deep at) f
fails_through (bad.TooMany at) r s h f = h (too_many at) f

pub bind_fails : {A B : Type 0} (r : Read A) (f : A × List Token → Read B) (e : SynBad) → Fails e r → Fails e (r >>= f)
bind_fails r f e h = fails_through e r (r >>= f) (λ stop is. rw is refl) h
