-- Files to compute with, made from what varies in them.
-- Assumes nothing.
use Prim.Native.Nat.{ℕ, ◌-◌}
use Prim.Native.String.{String}
use mathlib.Core.List.{List, [], ◌∷◌, ◌++◌}
use lib.ListN.{length, replicate}
use Rattle.meaning.specs.Lists.{bytes}
use Rattle.meaning.specs.Document.{digits}

-- a GSI block: 25 frames; DSC and CCT, TNB and MNR as given; blanks elsewhere
unfoldable pub gsi_with : String → ℕ → String → List ℕ
gsi_with standard tnb mnr =
    replicate 3 32 ++ bytes "STL25.01" ++ bytes standard ++ replicate 224 32 ++ digits 5 tnb ++ replicate 10 32 ++ bytes mnr
    ++ replicate 769 32

-- a teletext file's: DSC "1", CCT "00"
unfoldable pub gsi : ℕ → List ℕ
gsi tnb = gsi_with "100" tnb "  "

-- what varies in a block here: SN below 256, EBN, the seconds and frames of TCO, VP, CF, and the text, filled up with 8Fh
pub record Block : Type 0 where
  pub sn : ℕ
  pub ebn : ℕ
  pub seconds : ℕ
  pub frames : ℕ
  pub vp : ℕ
  pub cf : ℕ
  pub text : List ℕ

-- from 10:00:01:02 on, centred
unfoldable pub block : Block → List ℕ
block b =
    (0 ∷ b.sn ∷ 0 ∷ b.ebn ∷ 0 ∷ 10 ∷ 0 ∷ 1 ∷ 2 ∷ 10 ∷ 0 ∷ b.seconds ∷ b.frames ∷ b.vp ∷ 2 ∷ b.cf ∷ [])
    ++ b.text ++ replicate (112 - length b.text) 143

-- a subtitle of one block
unfoldable pub subtitle : ℕ → List ℕ → Block
subtitle vp text = record { sn = 1; ebn = 255; seconds = 3; frames = 4; vp = vp; cf = 0; text = text }

unfoldable pub blocks_of : List Block → List ℕ
blocks_of [] = []
blocks_of (b ∷ bs) = block b ++ blocks_of bs

-- TNB is the number of blocks
unfoldable pub file_of : List Block → List ℕ
file_of bs = gsi (length bs) ++ blocks_of bs

-- a file of one subtitle: DSC and CCT, MNR, VP and the text
unfoldable pub one_of : String → String → ℕ → List ℕ → List ℕ
one_of standard mnr vp text = gsi_with standard 1 mnr ++ block (subtitle vp text)

-- one more name that opens them all
unfoldable pub files : Unit {0}
unfolding gsi_with gsi block subtitle blocks_of file_of one_of
files = tt
