use Rattle.std.proofs.Common.{◌≡◌, take}
use Rattle.pm_words.specs.Settings.{texts_in}
use Rattle.pm_words.proofs.reading.texts_of.Given as goal

abbrev pub invariant-loop-word : goal.invariant-loop-word
invariant-loop-word l = texts_in l.texts.items ≡ take l.word-index l.words
