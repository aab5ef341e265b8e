-- What stands in a subtitle's paragraph: its rows, and a tt:br for each filler line.
-- Assumes nothing.
use Prim.Native.Nat.{ℕ}
use mathlib.Core.Path.{◌≡◌, refl}
use mathlib.Core.List.{◌++◌}
use lib.ListN.{replicate}
use Rattle.meaning.specs.Rows.{lines_of, row_count}
use Rattle.meaning.specs.declared.Format.{Format}
use Rattle.meaning.specs.Walk.{Subtitle}
use Rattle.meaning.specs.Document.Piece.{br}
use Rattle.meaning.specs.Conversion.{row_pieces, fillers, pieces, paragraph_of}

abbrev pub fillers_of : Format → Subtitle → ℕ
fillers_of f s = (fillers f.screen.end s.first.vp (lines_of s.double (row_count s.rows))).0

pub pieces_are : (f : Format) (s : Subtitle) → (paragraph_of f s).pieces ≡ row_pieces s.rows ++ replicate (fillers_of f s) br
unfolding paragraph_of pieces
pieces_are f s = refl
