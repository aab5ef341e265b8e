-- Paragraphs laid behind others, and that of a closed set.
-- Assumes nothing.
use Prim.Native.Nat.{ℕ, ◌<◌, ◌^◌}
use native.Mathlib.Omega.{arith}
use mathlib.Core.Path.{◌≡◌, refl, sym, ◌∙◌}
use mathlib.Core.Bool.{Bool}
use mathlib.Core.List.{List, [], ◌∷◌, ◌++◌, append-nil, flat_map}
use lib.ListN.{length}
use Rattle.meaning.specs.Document.{Paragraph, write_paragraph, paragraph_looks, document_looks}
use Rattle.meaning.proofs.ListLaws.{join_append}
use Rattle.output.specs.Output.{Wrote}
use Rattle.output.proofs.Laws.{◌⨟◌, wrote-length}
use Rattle.text.specs.declared.BodyWriter.{BodyWriter}
use Rattle.text.specs.Laid.{Laid}
use Rattle.text.proofs.Laws.{marked_append, past-append}
use Rattle.document.specs.Parts.{ParagraphLaid}
use Rattle.closed.specs.Body.{Body, body_of, laid, KeepsBuffers, LaysAs, Lays}

bodies :
    {out out' : List ℕ} {marks marks' : List Bool} {at at' spans spans' : ℕ} → out ≡ out' → marks ≡ marks' → at ≡ at' → spans ≡ spans'
    → ◌≡◌ {A = Body} (record { out = out; marks = marks; tally = record { at = at; spans = spans } })
    (record { out = out'; marks = marks'; tally = record { at = at'; spans = spans' } })
bodies e f g h = rw (e, f, g, h)

-- what is written of paragraphs, as `laid` has it
written : (ps : List Paragraph) (p : Body) → length p.out < 2 ^ 64 → Wrote p.out p.tally.at (flat_map write_paragraph ps) (laid ps p).out (laid ps p).tally.at
unfolding laid
written ps p h = record { held = refl; next = refl; room = h }

pub laid-append : (ps qs : List Paragraph) (p : Body) → length p.out < 2 ^ 64 → laid (ps ++ qs) p ≡ laid qs (laid ps p)
unfolding laid document_looks
laid-append ps qs p h =
    let a = written ps p h in
    let b = a ⨟ written qs (laid ps p) (omega (arith, wrote-length a)) in
    rw (join_append write_paragraph ps qs, join_append paragraph_looks ps qs)
    (bodies (sym b.held) (marked_append p.marks (document_looks ps) (document_looks qs)) (sym b.next)
    (sym (past-append p.tally.spans (document_looks ps) (document_looks qs))))

-- a body is what is laid on another, for paragraphs and for one
pub is-laid : {b b' : BodyWriter} (ps : List Paragraph) → Laid b (flat_map write_paragraph ps) (document_looks ps) b' → body_of b' ≡ laid ps (body_of b)
unfolding laid
is-laid ps l = bodies l.wrote.wrote.held l.marks l.wrote.wrote.next l.spans

one : {b b' : BodyWriter} (p : Paragraph) → ParagraphLaid b p b' → Laid b (flat_map write_paragraph (p ∷ [])) (document_looks (p ∷ [])) b'
unfolding flat_map document_looks
one p l = rw (append-nil (write_paragraph p), append-nil (paragraph_looks p)) l

-- buffers that nothing is done to, and that are kept by two steps
pub keeps-none : {a : BodyWriter} → KeepsBuffers a a
keeps-none = record { writer = refl; out = refl; marks = refl }

pub keeps-then : {a b c : BodyWriter} → KeepsBuffers a b → KeepsBuffers b c → KeepsBuffers a c
keeps-then k l = record { writer = l.writer ∙ k.writer; out = l.out ∙ k.out; marks = l.marks ∙ k.marks }

-- a body writer that nothing is done to, and one that laid a paragraph
pub lays-nothing : {A : Type 0} {stands : Body → A} {b : BodyWriter} {a : A} → stands (body_of b) ≡ a → LaysAs stands b a b
lays-nothing e = record { laid = e; buffers = keeps-none }

pub lays-paragraph : {b b' : BodyWriter} (p : Paragraph) {q : Body} → ParagraphLaid b p b' → laid (p ∷ []) (body_of b) ≡ q → Lays b q b'
lays-paragraph p l e = record { laid = is-laid (p ∷ []) (one p l) ∙ e; buffers = record { writer = l.writer; out = l.wrote.same; marks = l.same } }
