-- The promise over any cutting, of stores: document 02, request 5.
-- Assumes nothing.
use Rattle.std.specs.Prelude.{ℕ, ◌≡◌, List, [], ◌∷◌, length}
use Rattle.meaning.specs.Lists.{joined}
use Rattle.meaning.specs.Conversion.{answer}
use Rattle.store.specs.Layout.{store_size}
use Rattle.store.specs.Stores.{check_of}
use Rattle.streamed.specs.Checks.{opened_in, fed_in, closed_in, answer_in}

-- one store after another, as lumps are fed: what `feed_check` promises of each two
pub data FedBy : List ℕ → List (List ℕ) → List ℕ → Type 0 where
  done : (store : List ℕ) → FedBy store [] store
  more :
      (before next after lump : List ℕ) (lumps : List (List ℕ)) → check_of next ≡ fed_in (check_of before) lump → FedBy next lumps after
      → FedBy before (lump ∷ lumps) after

-- one store after another, as lumps are fed and the check is closed, in any order
pub data Later : List ℕ → List ℕ → Type 0 where
  here : (store : List ℕ) → Later store store
  fed : (before next after lump : List ℕ) → check_of next ≡ fed_in (check_of before) lump → Later next after → Later before after
  closed : (before next after : List ℕ) → check_of next ≡ closed_in (check_of before) → Later next after → Later before after

-- opened, fed lump after lump and closed: the answer is that of the joined file. Fed and closed again, it is the same.
pub record Kept (mode room : ℕ) (lumps : List (List ℕ)) (fed_store closed_store : List ℕ) : Type 0 where
  pub answered : answer_in (check_of fed_store) ≡ answer mode (joined lumps) room
  pub repeated : (last : List ℕ) → Later closed_store last → answer_in (check_of last) ≡ answer mode (joined lumps) room

abbrev pub Promise : Type 0
Promise =
    (mode room : ℕ) (lumps : List (List ℕ)) (lent open_store fed_store closed_store : List ℕ) → length lent ≡ store_size
    → check_of open_store ≡ opened_in (length lent) mode room → FedBy open_store lumps fed_store → check_of closed_store ≡ closed_in (check_of fed_store)
    → Kept mode room lumps fed_store closed_store
