-- The two passes together: what was measured is the document's, and what was written is the document.
-- Assumes nothing.
use Prim.Native.Nat.{ℕ, ◌+◌, ◌<◌, ◌^◌}
use native.Mathlib.Omega.{arith}
use mathlib.Core.Path.{◌≡◌, refl, sym, ap, subst, ◌∙◌}
use mathlib.Core.Bool.{Bool, true, false}
use mathlib.Core.List.{List, [], ◌++◌, map, map-append, append_assoc, append-nil, flat_map}
use lib.ListN.{length, length-append}
use Rattle.std.specs.Prelude.{Result, Ok, Err, IsErrAnd}
use Rattle.meaning.specs.declared.Refusal.{Refusal}
use Rattle.meaning.specs.declared.Answer.{Answer}
use Rattle.meaning.specs.declared.Header.{Header}
use Rattle.meaning.specs.declared.Format.{Format}
use Rattle.meaning.specs.Refusals.{is_good, verdict}
use Rattle.meaning.specs.Lists.{joined}
use Rattle.meaning.specs.Gsi.{format_of, block_count, file_rule}
use Rattle.meaning.specs.Codes.{tokens}
use Rattle.meaning.specs.TextRules.{text_rule}
use Rattle.meaning.specs.Blocks.{is_comment}
use Rattle.meaning.specs.Sets.{BlockSet}
use Rattle.meaning.specs.Walk.{Subtitle, Progress, Outcome, finish, walk, set_rule, subtitle_of, subtitles_from, with_subtitles, outcome}
use Rattle.meaning.specs.Walk.Outcome.{refused, accepted}
use Rattle.meaning.specs.Document.{write_paragraph, document_looks, render, document_spans, after_paragraphs}
use Rattle.meaning.specs.Conversion.{paragraph_of, document_of, refusal, refused_answer, answer_by, answer_to, answer, output}
use Rattle.laws.specs.Demands.{FewestSpans}
use Rattle.meaning.proofs.Logic.{by_test}
use Rattle.laws.proofs.Gathering.{mapped, finish-mapped, walk-mapped, finish-accepted}
use Rattle.laws.proofs.Accepted.{taken, rule-kept}
use Rattle.laws.proofs.Refused.{refusal-bad, refused-untouched}
use Rattle.laws.proofs.Bounds.{document_bound, spans_bound}
use Rattle.laws.proofs.OwnProfile.{Bytes}
use Rattle.laws.proofs.Demand3.{fewest-spans}
use Rattle.output.specs.declared.Writer.{Writer}
use Rattle.output.specs.Output.{stored, past, Wrote, Put}
use Rattle.output.proofs.Laws.{◌⨟◌, wrote-length, wrote_as, stored-fits}
use Rattle.styles.specs.declared.Marks.{Marks}
use Rattle.text.specs.Laid.{marked_with}
use Rattle.text.proofs.Content.{content_whole}
use Rattle.document.specs.Parts.{head_of, paragraph_for}
use Rattle.checking.specs.declared.Checked.{Checked}
use Rattle.closed.specs.Body.{Body, empty_body, laid, lay_set}
use Rattle.checking.specs.Passing.{checked_of}
use Rattle.writing.specs.Laying.{Laying, lay_blocks}
use Rattle.convert.specs.declared.Accepted.{Accepted}
use Rattle.convert.specs.declared.Refused.{Refused}
use Rattle.convert.specs.Telling.{marks_of, measured, answer_of, examined_by, within_room, examined_to, examined, answered, WritesDocument, examined_with}
use Rattle.closed.proofs.Laying.{laid-append}
use Rattle.writing.proofs.Laws.{walk_lays}
use Rattle.convert.proofs.Marking.{looks-right}
use Rattle.convert.proofs.Answering.{IsRight, ruled, verdict_good, verdict_bad, answered_to, ruled_to, right_to}

paragraph_whole :
    (f : Format) (place : ℕ) (h : Header) (text : List ℕ) → is_good (text_rule f place h.vp text) ≡ true
    → paragraph_for f h text ≡ paragraph_of f (subtitle_of f.mode h (tokens text))
unfolding paragraph_for paragraph_of subtitle_of
paragraph_whole f place h text e = rw (content_whole f place h.vp text e)

-- what is laid for subtitles, from a body on
unfoldable paragraphs_on : Format → Body → List Subtitle → Body
paragraphs_on f p ss = laid (map (paragraph_of f) ss) p

-- a body whose buffer and numbers are those of a machine: laying nothing leaves it as it is
record Here (p : Body) : Type 0 where
  room : length p.out < 2 ^ 64
  at : p.tally.at < 2 ^ 64
  spans : p.tally.spans < 2 ^ 64

past_nothing : (n : ℕ) → n < 2 ^ 64 → n ≡ past n 0
unfolding past
past_nothing n h = omega arith

laid_nothing : (p : Body) → Here p → p ≡ laid [] p
unfolding laid stored marked_with document_looks flat_map
laid_nothing p h = rw (sym (past_nothing p.tally.at h.at), sym (past_nothing p.tally.spans h.spans)) refl

module _ (f : Format) (p : Body) (h : Here p) where
  -- what is laid for a set within the rules are the paragraphs of its subtitles
  alike : (s : BlockSet) (ss : List Subtitle) → is_good (set_rule f s) ≡ true → paragraphs_on f p (with_subtitles f s ss) ≡ lay_set f s (paragraphs_on f p ss)
  unfolding paragraphs_on with_subtitles subtitles_from set_rule lay_set
  alike s ss e =
      by_test (is_comment s.first)
      (λ c. rw (c, append-nil ss))
      (λ c.
      rw (c, map-append (paragraph_of f) ss, paragraph_whole f s.place s.first s.text (rw c at e))
      (laid-append (map (paragraph_of f) ss) _ p h.room))

  -- a walk that lays, by the one that gathers subtitles
  walk-laid : (file : List ℕ) (n : ℕ) → walk f (set_rule f) (lay_set f) p file n ≡ mapped (paragraphs_on f p) (walk f (set_rule f) (with_subtitles f) [] file n)
  unfolding paragraphs_on
  walk-laid file n =
      ap (λ (q : Body). walk f (set_rule f) (lay_set f) q file n) (laid_nothing p h)
      ∙ sym (walk-mapped (paragraphs_on f p) f (set_rule f) (with_subtitles f) (lay_set f) alike [] file n)

-- the document in three parts: head, paragraphs, tail
document-parts :
    {on : List Bool} (f : Format) (ss : List Subtitle) → on ≡ marks_of f ss
    → render (document_of f ss) ≡ head_of f.rate on ++ (flat_map write_paragraph (map (paragraph_of f) ss) ++ after_paragraphs)
unfolding render document_of head_of joined marks_of
document-parts f ss e = rw (looks-right (map (paragraph_of f) ss) e) (sym (simp append_assoc))

module _ (mode : ℕ) (file : List ℕ) where
  -- an accepted file: what was measured is the document's
  module _ (p : Progress (List Subtitle)) (c : outcome mode file ≡ accepted p) where
    length-right :
        measured (format_of mode file).rate (marks_of (format_of mode file) p.gathered) (past 0 (length (flat_map write_paragraph (map (paragraph_of (format_of mode file)) p.gathered))))
        ≡ length (render (document_of (format_of mode file) p.gathered))
    unfolding past measured
    length-right =
        let body = flat_map write_paragraph (map (paragraph_of (format_of mode file)) p.gathered) in
        omega (
          arith,
          ap length (document-parts (format_of mode file) p.gathered refl),
          document_bound mode file p c,
          length-append (head_of (format_of mode file).rate (marks_of (format_of mode file) p.gathered)) (body ++ after_paragraphs),
          length-append body after_paragraphs,
        )

    spans-right :
        past 0 (length (document_looks (map (paragraph_of (format_of mode file)) p.gathered))) ≡ document_spans (document_of (format_of mode file) p.gathered).paragraphs
    unfolding past document_spans document_of
    spans-right = omega (arith, spans_bound mode file p c)

  -- a walk that lays, by the outcome of a file that keeps the rules 1 to 6
  outcome-laid :
      (p : Body) → Here p → is_good (file_rule mode file) ≡ true
      → (let f = format_of mode file in finish (block_count file) (walk f (set_rule f) (lay_set f) p file (block_count file))) ≡ mapped (paragraphs_on (format_of mode file) p) (outcome mode file)
  unfolding outcome
  outcome-laid p h e = rw (walk-laid (format_of mode file) p h file (block_count file), e, outcome) (sym (finish-mapped _ (block_count file) _))

  -- a file as pass one tells it, by what it is
  answer-right :
      (room : ℕ) (o : Outcome (List Subtitle)) → outcome mode file ≡ o
      → answer_of (format_of mode file) room (checked_of (mapped (paragraphs_on (format_of mode file) empty_body) o)) ≡ answer_to (format_of mode file) room o
  unfolding answer_of answer_to checked_of mapped paragraphs_on laid marks_of
  answer-right room (refused r) c = refl
  answer-right room (accepted p) c =
      ap (λ (n : ℕ). answer_by room p.counts n (past 0 (length (document_looks (map (paragraph_of (format_of mode file)) p.gathered))))) (length-right p c)
      ∙ ap (answer_by room p.counts (length (render (document_of (format_of mode file) p.gathered)))) (spans-right p c)

  examined-right :
      (room : ℕ) (o : Outcome (List Subtitle)) → outcome mode file ≡ o
      → examined_with (format_of mode file) room (checked_of (mapped (paragraphs_on (format_of mode file) empty_body) o)) ≡ examined_to (format_of mode file) room o
  unfolding within_room examined_to checked_of mapped paragraphs_on laid marks_of
  examined-right room (refused r) c = refl
  examined-right room (accepted p) c =
      let marks : Marks = record { on = marks_of (format_of mode file) p.gathered } in
      ap (λ (n : ℕ). examined_by room n (past 0 (length (document_looks (map (paragraph_of (format_of mode file)) p.gathered)))) p.counts marks) (length-right p c)
      ∙ ap (λ (n : ℕ). examined_by room (length (render (document_of (format_of mode file) p.gathered))) n p.counts marks) (spans-right p c)

  -- a file that breaks one of the rules 1 to 6
  module _ (e : is_good (file_rule mode file) ≡ false) where
    broken : outcome mode file ≡ refused (file_rule mode file)
    unfolding outcome
    broken = rw (e, outcome)

    pub answer_broken : (room : ℕ) → refused_answer (file_rule mode file) 0 ≡ answer mode file room
    unfolding answer answer_to
    answer_broken room = rw (broken, answer)

    pub examined_broken : (room : ℕ) → Err (record { refusal = file_rule mode file; needed = 0 }) ≡ examined mode file room
    unfolding examined examined_to
    examined_broken room = rw (broken, examined)

  -- a file that keeps them
  module _ (e : is_good (file_rule mode file) ≡ true) where
    told :
        (let f = format_of mode file in checked_of (finish (block_count file) (walk f (set_rule f) (lay_set f) empty_body file (block_count file))))
        ≡ checked_of (mapped (paragraphs_on (format_of mode file) empty_body) (outcome mode file))
    told = ap checked_of (outcome-laid empty_body (record { room = omega arith; at = omega arith; spans = omega arith }) e)

    pub answer_told :
        (room : ℕ)
        → (let f = format_of mode file in answer_of f room (checked_of (finish (block_count file) (walk f (set_rule f) (lay_set f) empty_body file (block_count file)))))
        ≡ answer mode file room
    unfolding answer
    answer_told room = ap (answer_of (format_of mode file) room) told ∙ answer-right room (outcome mode file) refl

    pub examined_told :
        (room : ℕ)
        → (let f = format_of mode file in examined_with f room (checked_of (finish (block_count file) (walk f (set_rule f) (lay_set f) empty_body file (block_count file)))))
        ≡ examined mode file room
    unfolding examined
    examined_told room = ap (examined_with (format_of mode file) room) told ∙ examined-right room (outcome mode file) refl

  -- what comes back, by what was examined
  pub answered_examined : (room : ℕ) → answered (examined mode file room) ≡ answer mode file room
  unfolding examined answer
  answered_examined room = answered_to (format_of mode file) room (outcome mode file)

  pub ruled_examined : (room : ℕ) → ruled (examined mode file room) ≡ verdict (refusal mode file room)
  unfolding examined refusal
  ruled_examined room = ruled_to (format_of mode file) room (outcome mode file) (λ r. refusal-bad mode file)

  examined_right : (room : ℕ) → IsRight (format_of mode file) (outcome mode file) (examined mode file room)
  unfolding examined
  examined_right room = right_to (format_of mode file) room (outcome mode file) (λ r. refusal-bad mode file)

-- an error that is known is the result
err_is : {A E : Type 0} (x : Result A E) (r : E) → IsErrAnd x (λ e. e ≡ r) → x ≡ Err r
err_is (Ok a) r h = absurd h
err_is (Err e) r h = ap Err h

-- what examines a file, by what it calls
module _ (mode : ℕ) (file : List ℕ) (room : ℕ) where
  pub rule_examined :
      {r : Refusal} {x : Result Accepted Refused} → verdict (file_rule mode file) ≡ Err r → IsErrAnd x (λ e. e ≡ record { refusal = r; needed = 0 })
      → x ≡ examined mode file room
  rule_examined {x = x} e h = let v = verdict_bad _ e in err_is x _ h ∙ rw (sym v.1) (examined_broken mode file v.0 room)

  module _ (e : verdict (file_rule mode file) ≡ Ok tt) {f : Format} {n : ℕ} {y : Result Checked Refusal} (g : f ≡ format_of mode file) (b : n ≡ block_count file) (s : y ≡ checked_of (finish n (walk f (set_rule f) (lay_set f) empty_body file n))) where
    pub pass_examined : examined_with f room y ≡ examined mode file room
    pass_examined = ap (examined_with f room) s ∙ rw (g, b) (examined_told mode file (verdict_good _ e) room)

-- pass two
module _ (mode : ℕ) (file : List ℕ) where
  pub document_written :
      {f : Format} {n : ℕ} {marks : Marks} {buf out : List ℕ} (w0 w1 w2 w3 : Writer) (from body : Body) → f ≡ format_of mode file → n ≡ block_count file
      → Put w0 (head_of f.rate marks.on) w1 → w0.out.now ≡ buf → w0.at ≡ 0 → body ≡ (lay_blocks f file from n).body → from.out ≡ w1.out.now
      → from.tally ≡ record { at = w1.at; spans = 0 } → Put w2 after_paragraphs w3 → w2.out.now ≡ body.out → w2.at ≡ body.tally.at → out ≡ w3.out.now
      → WritesDocument mode file marks buf out
  unfolding mapped paragraphs_on laid past
  document_written {marks = marks} {buf} w0 w1 w2 w3 from body g b p1 o0 a0 s o1 t1 p3 o2 a2 last =
      record {
        written = λ p c m.
            let r = format_of mode file in
            let x1 : Wrote buf 0 (head_of r.rate marks.on) w1.out.now w1.at = rw (g, o0, a0) at p1.wrote in
            let h : Here from = record { room = rw o1 (omega (arith, x1.room, wrote-length x1)); at = rw t1 (omega (arith, x1.next)); spans = rw t1 (omega arith) } in
            let z : finish (block_count file) (walk r (set_rule r) (lay_set r) from file (block_count file)) ≡ mapped (paragraphs_on r from) (accepted p) =
            outcome-laid mode file from h (rule-kept mode file p c) ∙ ap (mapped (paragraphs_on r from)) c in
            let y : body ≡ paragraphs_on r from p.gathered = (rw (g, b) at s) ∙ ap (λ (q : Laying). q.body) (walk_lays r (set_rule r) file from (block_count file) _ (finish-accepted (block_count file) _ _ z)) in
            let x2 : Wrote from.out from.tally.at (flat_map write_paragraph (map (paragraph_of r) p.gathered)) body.out body.tally.at =
            record { held = ap (λ (q : Body). q.out) y; next = ap (λ (q : Body). q.tally.at) y; room = h.room } in
            let x3 : Wrote body.out body.tally.at after_paragraphs w3.out.now w3.at = rw (o2, a2) at p3.wrote in
            let x2' : Wrote w1.out.now w1.at (flat_map write_paragraph (map (paragraph_of r) p.gathered)) body.out body.tally.at = rw (o1, t1) at x2 in
            let w = wrote_as (document-parts r p.gathered m) (x1 ⨟ x2' ⨟ x3) in
            last ∙ w.held;
      }

-- what the converter promises
module _ (mode : ℕ) (file buf : List ℕ) (b : Bytes file) where
  abbrev Right : Answer → List ℕ → Type 0
  Right r out = (r ≡ answer mode file (length buf)) × ((out ≡ output mode file buf) × (r.number ≡ 0 → FewestSpans mode file r out))

  right : {r : Answer} {out : List ℕ} → r ≡ answer mode file (length buf) → out ≡ output mode file buf → Right r out
  right e f = (e, (f, λ z. rw (e, f) (fewest-spans mode file b buf (rw e at z))))

  module _ {x : Result Accepted Refused} (e : x ≡ examined mode file (length buf)) where
    answered_so : answered x ≡ answer mode file (length buf)
    answered_so = ap answered e ∙ answered_examined mode file (length buf)

    examined_so : IsRight (format_of mode file) (outcome mode file) x
    examined_so = subst (IsRight (format_of mode file) (outcome mode file)) (sym e) (examined_right mode file (length buf))

  pub right_refused : {r : Refused} {a : Answer} → Err r ≡ examined mode file (length buf) → a ≡ refused_answer r.refusal r.needed → Right a buf
  unfolding answered refused_answer
  right_refused e d =
      let t = d ∙ answered_so e in
      right t (sym ((refused-untouched mode file buf).1 (λ z. examined_so e (ap (λ (a : Answer). a.number) (answered_so e) ∙ z))))

  pub right_written :
      {a : Accepted} {out : List ℕ} → Ok a ≡ examined mode file (length buf) → WritesDocument mode file a.marks buf out → Right a.answer out
  unfolding answered
  right_written {a} e w =
      let k = examined_so e in
      let n : (answer mode file (length buf)).number ≡ 0 = ap (λ (a : Answer). a.number) (sym (answered_so e)) ∙ k.0 in
      let t = taken mode file buf n in
      let z : 0 + length (render (document_of (format_of mode file) t.progress.gathered)) ≡ length (render (document_of (format_of mode file) t.progress.gathered)) = omega arith in
      right (answered_so e)
      (w.written t.progress t.came (k.1 t.progress t.came) ∙ stored-fits buf 0 _ (omega (arith, t.fits)) ∙ rw z (sym t.written))
