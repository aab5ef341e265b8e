use native.Mathlib.Omega.{arith}
use mathlib.Core.Path.{refl}
use Rattle.store.proofs.Reading.{loaded_more, loaded_all}
use Rattle.store.proofs.loading.numbers_in.Goals as goal

pub loop-i-init : goal.loop-i-init
loop-i-init c = record { long = refl; each = λ k h. absurd (omega arith) }

pub loop-i-preserved : goal.loop-i-preserved
loop-i-preserved c = loaded_more c.loop-i.invariant c.loop-i-test.true c.word_at.ensures

pub returns : goal.returns
returns c = loaded_all c.loop-i.invariant c.loop-i-test.false
