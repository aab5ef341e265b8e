-- A file that is fed in lumps, cut anywhere: the answer is the converter's own on the joined file; and a check after its close.
-- Assumes nothing.
use Prim.Native.Nat.{ℕ, suc, min}
use native.Mathlib.Omega.{arith}
use mathlib.Core.Path.{◌≡◌, refl, sym, ap, ◌∙◌}
use mathlib.Core.Bool.{Bool, true, false, cond}
use mathlib.Core.List.{List, [], ◌∷◌, ◌++◌}
use lib.Dec.{ltb}
use lib.ListN.{length}
use borrow.Author.Tests.{eqb-true, eqb-false}
use Rattle.meaning.specs.Lists.{joined}
use Rattle.meaning.specs.Refusals.{is_good}
use Rattle.meaning.specs.Blocks.{gsi_size, block_size}
use Rattle.meaning.specs.Gsi.{most_blocks, format_of, block_count, file_rule}
use Rattle.meaning.specs.Walk.{finish, walk, set_rule}
use Rattle.meaning.specs.Conversion.{answer}
use Rattle.meaning.proofs.Logic.{by_test}
use Rattle.laws.proofs.Bounds.{tnb_bound}
use Rattle.closed.specs.Body.{empty_body, lay_set}
use Rattle.checking.specs.Passing.{checked_of}
use Rattle.convert.proofs.Converting.{answer_broken, answer_told}
use Rattle.feeding.specs.Feeding.{Check, opened, with_block, with_bytes, with_byte, fed}
use Rattle.feeding.specs.Standing.{standing}
use Rattle.feeding.proofs.Cutting.{fed-append}
use Rattle.feeding.proofs.Standing.{stands}
use Rattle.lumps.specs.Lumps.{rule_now, answer_now, feed, feed_all}
use Rattle.lumps.specs.Promise.{AnyCutting, AfterClose}
use Rattle.lumps.proofs.Fronts.{format_front}
use Rattle.lumps.proofs.Rules.{alike-good, rule_now_lem}

-- after the close nothing changes
pub over : AfterClose
unfolding feed answer_now rule_now
over c = record { repeats = refl; again = refl; unfed = λ lump. refl }

-- no byte closes a check
byte-ended : (c : Check) (b : ℕ) → (with_byte c b).ended ≡ c.ended
unfolding with_byte with_bytes with_block
byte-ended c b =
    by_test (ltb (length c.gsi) gsi_size)
    (λ e. rw (e, with_byte))
    (λ e.
    by_test (ltb (length (c.part ++ (b ∷ []))) block_size)
    (λ g. rw (e, with_byte, g, with_bytes))
    (λ g. by_test (ltb c.count most_blocks) (λ h. rw (e, with_byte, g, with_bytes, h, with_block)) (λ h. rw (e, with_byte, g, with_bytes, h, with_block))))

fed-ended : (c : Check) (bs : List ℕ) → (fed c bs).ended ≡ c.ended
unfolding fed
fed-ended c [] = refl
fed-ended c (b ∷ bs) = fed-ended (with_byte c b) bs ∙ byte-ended c b

-- a lump before the close
pub feed-fed : (c : Check) (lump : List ℕ) → c.ended ≡ false → feed c lump ≡ fed c lump
unfolding feed
feed-fed c lump e = ap (λ (b : Bool). cond b c (fed c lump)) e

-- lumps are as one
pub feed-all : (c : Check) (lumps : List (List ℕ)) → c.ended ≡ false → feed_all c lumps ≡ fed c (joined lumps)
unfolding feed_all joined fed
feed-all c [] e = refl
feed-all c (l ∷ []) e = feed-fed c l e
feed-all c (l ∷ m ∷ ls) e =
    ap (λ (d : Check). feed_all d (m ∷ ls)) (feed-fed c l e)
    ∙ feed-all (fed c l) (m ∷ ls) (fed-ended c l ∙ e)
    ∙ sym (fed-append c l (joined (m ∷ ls)))

-- the answer of a check that was fed a file
module _ (mode room : ℕ) (file : List ℕ) where
  -- it tells a broken rule where the file breaks one
  same_good : is_good (rule_now (standing mode room file)) ≡ is_good (file_rule mode file)
  same_good = alike-good _ _ (rule_now_lem mode room file)

  -- where the file breaks one of the rules 1 to 6, and where it breaks none: TNB then counts its blocks, so that all are walked over
  stands-broken : is_good (file_rule mode file) ≡ false → answer_now (standing mode room file) ≡ answer mode file room
  unfolding answer_now
  stands-broken e = rw (same_good ∙ e, answer_now) (rule_now_lem mode room file) ∙ answer_broken mode file e room

  stands-walked : is_good (file_rule mode file) ≡ true → answer_now (standing mode room file) ≡ answer mode file room
  unfolding answer_now standing
  stands-walked e =
      let k = tnb_bound mode file e in
      let b : min (block_count file) (suc most_blocks) ≡ block_count file = omega arith in
      let n : min (block_count file) most_blocks ≡ block_count file = omega arith in
      rw (same_good ∙ e, answer_now) (rw (format_front mode file, b, n) (answer_told mode file e room))

  pub answer-stands : answer_now (standing mode room file) ≡ answer mode file room
  answer-stands = by_test (is_good (file_rule mode file)) stands-walked stands-broken

-- however a file is cut
pub any_cutting : AnyCutting
unfolding opened
any_cutting mode room lumps =
    ap answer_now (feed-all (opened mode room) lumps refl ∙ stands mode room (joined lumps)) ∙ answer-stands mode room (joined lumps)
