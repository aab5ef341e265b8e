-- The fields of the GSI block stand in the first bytes of a file: what is read in these is what is read in the file.
-- Assumes nothing.
use Prim.Native.Nat.{ℕ, zero, suc, ◌+◌, ◌≤◌}
use native.Mathlib.Omega.{arith}
use mathlib.Core.Path.{◌≡◌, refl}
use mathlib.Core.Bool.{Bool}
use mathlib.Core.List.{List, [], ◌∷◌}
use lib.ListN.{take}
use lib.Seq.{take-take, get_or-take}
use Rattle.meaning.specs.Lists.{field, same, bytes}
use Rattle.meaning.specs.Blocks.{gsi_size}
use Rattle.meaning.specs.Gsi.{dfc_at, dsc_at, cct_at, tnb_at, mnr_at, rate_of, tnb, mnr, dsc, is_teletext, screen_of, format_of, gsi_rules}
use Rattle.meaning.proofs.Logic.{by_test}

-- a field that ends within the first m bytes
pub field-front : (from n m : ℕ) (s : List ℕ) → from + n ≤ m → field from n (take m s) ≡ field from n s
unfolding field
field-front zero n m s h = take-take n m s (omega arith)
field-front (suc from) n zero s h = absurd (omega arith)
field-front (suc from) n (suc m) [] h = refl
field-front (suc from) n (suc m) (x ∷ s) h = field-front from n m s (omega arith)

module _ (file : List ℕ) where
  pub rate-front : rate_of (take gsi_size file) ≡ rate_of file
  unfolding rate_of
  rate-front =
      let f : field dfc_at 8 (take gsi_size file) ≡ field dfc_at 8 file = field-front dfc_at 8 gsi_size file (omega arith) in
      by_test (same (field dfc_at 8 file) (bytes "STL25.01")) (λ e. rw (f, e, rate_of)) (λ e. rw (f, e, rate_of, f))

  pub dsc-front : dsc (take gsi_size file) ≡ dsc file
  dsc-front = get_or-take gsi_size file dsc_at 0 (omega arith)

  pub teletext_front : is_teletext (take gsi_size file) ≡ is_teletext file
  unfolding is_teletext
  teletext_front = rw dsc-front

  pub tnb-front : tnb (take gsi_size file) ≡ tnb file
  unfolding tnb
  tnb-front = rw (field-front tnb_at 5 gsi_size file (omega arith))

  pub mnr-front : mnr (take gsi_size file) ≡ mnr file
  unfolding mnr
  mnr-front = rw (field-front mnr_at 2 gsi_size file (omega arith))

  pub screen_front : screen_of (take gsi_size file) ≡ screen_of file
  unfolding screen_of
  screen_front = rw (teletext_front, mnr-front)

pub format_front : (mode : ℕ) (file : List ℕ) → format_of mode (take gsi_size file) ≡ format_of mode file
unfolding format_of
format_front mode file = rw (rate-front file, screen_front file, teletext_front file)

pub rules-front :
    (mode end : ℕ) (whole : Bool) (count : ℕ) (file : List ℕ) → gsi_rules mode end whole count (take gsi_size file) ≡ gsi_rules mode end whole count file
rules-front mode end whole count file =
    rw (
      rate-front file,
      teletext_front file,
      dsc-front file,
      field-front cct_at 2 gsi_size file (omega arith),
      field-front tnb_at 5 gsi_size file (omega arith),
      tnb-front file,
      mnr-front file,
    )
