-- The test of a walk over n blocks tells what is known of it: its blocks are counted, and the set that is open is short.
-- Assumes nothing.
use Prim.Native.Nat.{ℕ, suc, ◌*◌}
use mathlib.Core.Path.{◌≡◌, refl, subst}
use mathlib.Core.Bool.{true, ◌&&◌}
use mathlib.Core.Option.{Option, none, some}
use lib.Dec.{ltb, leb, eqb}
use lib.ListN.{length}
use borrow.Author.Tests.{leb-true, ltb-true, eqb-true, le-leb, lt-ltb, eq-eqb}
use Rattle.meaning.specs.Blocks.{text_size}
use Rattle.meaning.specs.Sets.{BlockSet, numbered_blocks}
use Rattle.meaning.specs.Walk.{total, Outcome}
use Rattle.meaning.specs.Walk.Outcome.{refused, accepted}
use Rattle.std.proofs.lemmas.Bool.{and_from, and_parts}
use mathlib.Core.Option.{none-ne-some}
use Rattle.laws.proofs.Walk.{Short, WithinIf}
use Rattle.closed.specs.Body.{Body}
use Rattle.feeding.specs.Sound.{is_short_so_far, is_within}

-- an open set
short-test : (n : ℕ) (o : Option BlockSet) → ((s : BlockSet) → o ≡ some s → Short n s) → is_short_so_far n o ≡ true
unfolding is_short_so_far
short-test n none h = refl
short-test n (some s) h =
    let q = h s refl in
    and_from _ _ (and_from _ _ (lt-ltb s.last numbered_blocks q.last) (lt-ltb s.last n q.few))
    (le-leb (length s.text) (text_size * suc s.last) q.size)

tested-short : (n : ℕ) (o : Option BlockSet) → is_short_so_far n o ≡ true → (s : BlockSet) → o ≡ some s → Short n s
unfolding is_short_so_far
tested-short n none e s g = absurd (none-ne-some _ g)
tested-short n (some t) e s g =
    let a = and_parts (ltb t.last numbered_blocks && ltb t.last n) (leb (length t.text) (text_size * suc t.last)) e in
    let b = and_parts (ltb t.last numbered_blocks) (ltb t.last n) a.0 in
    let z : t ≡ s = cc in
    subst (Short n) z
    (record {
      size = leb-true (length t.text) (text_size * suc t.last) a.1;
      last = ltb-true t.last numbered_blocks b.0;
      few = ltb-true t.last n b.1;
    })

-- a walk
pub within-test : (n : ℕ) (o : Outcome Body) → WithinIf n o → is_within n o ≡ true
unfolding is_within
within-test n (refused r) h = refl
within-test n (accepted p) h =
    and_from _ _ (eq-eqb (total p.counts) n h.counts) (short-test n p.assembly.current h.fits)

pub tested-within : (n : ℕ) (o : Outcome Body) → is_within n o ≡ true → WithinIf n o
unfolding is_within
tested-within n (refused r) e = tt
tested-within n (accepted p) e =
    let a = and_parts (eqb (total p.counts) n) (is_short_so_far n p.assembly.current) e in
    record { counts = eqb-true (total p.counts) n a.0; fits = tested-short n p.assembly.current a.1 }
