-- The promise over any cutting, of stores.
-- Assumes nothing.
use Prim.Native.Nat.{ℕ}
use mathlib.Core.Path.{◌≡◌, refl, ap, ◌∙◌}
use mathlib.Core.List.{List}
use Rattle.std.specs.Prelude.{Some}
use borrow.Author.Tests.{eq-eqb}
use Rattle.feeding.specs.Feeding.{Check, opened, close}
use Rattle.lumps.specs.Lumps.{feed, feed_all}
use Rattle.lumps.proofs.Cutting.{any_cutting, over}
use Rattle.store.specs.Layout.{store_size}
use Rattle.store.specs.Stores.{check_of}
use Rattle.streamed.specs.Checks.{opened_in, fed_in, closed_in, answer_in}
use Rattle.streamed.specs.Promise.{FedBy, Later, Promise}
use Rattle.streamed.specs.Promise.FedBy.{done, more}
use Rattle.streamed.specs.Promise.Later.{here, fed, closed}

-- what a store stands for after lumps
fed_by : (c : Check) {before after : List ℕ} {lumps : List (List ℕ)} → check_of before ≡ Some c → FedBy before lumps after → check_of after ≡ Some (feed_all c lumps)
unfolding fed_in feed_all
fed_by c e (done store) = e
fed_by c e (more before next after lump lumps f r) = fed_by (feed c lump) (f ∙ rw e refl) r

-- what follows the close changes nothing
later : (c : Check) {before after : List ℕ} → check_of before ≡ Some (close c) → Later before after → check_of after ≡ Some (close c)
unfolding fed_in closed_in
later c e (here store) = e
later c e (fed before next after lump f r) = later c (f ∙ rw e (ap Some ((over c).unfed lump))) r
later c e (closed before next after f r) = later c (f ∙ rw e (ap Some (over c).again)) r

pub promise : Promise
unfolding opened_in closed_in answer_in
promise mode room lumps lent open_store fed_store closed_store l o f k =
    let e : check_of open_store ≡ Some (opened mode room) = o ∙ rw (eq-eqb _ store_size l) refl in
    let c = feed_all (opened mode room) lumps in
    let g : check_of fed_store ≡ Some c = fed_by (opened mode room) e f in
    let d : check_of closed_store ≡ Some (close c) = k ∙ rw g refl in
    record {
      answered = rw g (any_cutting mode room lumps);
      repeated = λ last q. rw (later c d q) ((over c).repeats ∙ any_cutting mode room lumps);
    }
