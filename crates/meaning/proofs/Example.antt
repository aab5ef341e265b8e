-- The printed example of document 01, with the style lines of document 02, request 1: every byte of the buffer, computed.
-- Assumes nothing.
use Prim.Native.Nat.{ℕ, ◌-◌}
use mathlib.Core.List.{List, [], ◌∷◌, ◌++◌}
use lib.Dec.{T}
use lib.ListN.{length, replicate}
use Rattle.meaning.specs.Lists.{same, bytes}
use Rattle.meaning.specs.Conversion.{output}
use Rattle.meaning.proofs.Computed.{computed}
use Rattle.meaning.proofs.Files.{subtitle, file_of, files}

example_file : List ℕ
unfolding files
example_file = file_of (subtitle 20 (13 ∷ 11 ∷ 11 ∷ 72 ∷ 105 ∷ 3 ∷ 121 ∷ 111 ∷ 117 ∷ []) ∷ [])

example_document : List ℕ
example_document = bytes "<?xml version=\"1.0\" encoding=\"UTF-8\"?>\n<tt:tt xmlns:tt=\"http://www.w3.org/ns/ttml\" xmlns:ttp=\"http://www.w3.org/ns/ttml#parameter\" xmlns:tts=\"http://www.w3.org/ns/ttml#styling\" xmlns:ebuttm=\"urn:ebu:tt:metadata\" xml:lang=\"\" xml:space=\"preserve\" ttp:timeBase=\"smpte\" ttp:frameRate=\"25\" ttp:frameRateMultiplier=\"1 1\" ttp:markerMode=\"discontinuous\" ttp:dropMode=\"nonDrop\" ttp:cellResolution=\"50 30\">\n<tt:head><tt:metadata><ebuttm:documentMetadata><ebuttm:documentEbuttVersion>v1.0</ebuttm:documentEbuttVersion></ebuttm:documentMetadata></tt:metadata><tt:styling>\n<tt:style xml:id=\"defaultStyle\" tts:fontSize=\"1c 1c\" tts:fontFamily=\"monospaceSansSerif\" tts:textAlign=\"left\" tts:lineHeight=\"normal\" tts:color=\"#ffffff\" tts:backgroundColor=\"#000000\" tts:fontWeight=\"normal\" tts:fontStyle=\"normal\" tts:textDecoration=\"none\"/>\n<tt:style xml:id=\"alignLeft\" tts:textAlign=\"left\"/>\n<tt:style xml:id=\"alignCentre\" tts:textAlign=\"center\"/>\n<tt:style xml:id=\"alignRight\" tts:textAlign=\"right\"/>\n<tt:style xml:id=\"s067\" tts:color=\"#ffff00\" tts:backgroundColor=\"#000000\" tts:fontSize=\"1c 2c\" tts:fontStyle=\"normal\" tts:textDecoration=\"none\"/>\n<tt:style xml:id=\"s071\" tts:color=\"#ffffff\" tts:backgroundColor=\"#000000\" tts:fontSize=\"1c 2c\" tts:fontStyle=\"normal\" tts:textDecoration=\"none\"/>\n</tt:styling><tt:layout>\n<tt:region xml:id=\"bottom\" tts:origin=\"0% 0%\" tts:extent=\"100% 100%\" tts:displayAlign=\"after\"/>\n</tt:layout></tt:head><tt:body><tt:div style=\"defaultStyle\" region=\"bottom\">\n<tt:p xml:id=\"sub1\" style=\"alignCentre\" begin=\"10:00:01:02\" end=\"10:00:03:04\"><tt:span style=\"s071\">Hi </tt:span><tt:span style=\"s067\">you</tt:span><tt:br/><tt:br/></tt:p>\n</tt:div></tt:body></tt:tt>\n"

-- in a buffer of 4,000 bytes of 1, those after the document stay
example : T (same (output 1 example_file (replicate 4000 1)) (example_document ++ replicate (4000 - length example_document) 1))
unfolding computed files example_file example_document
example = tt
