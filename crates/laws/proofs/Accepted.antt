-- What an answer of 0 says of the file: the walk accepted it, the document fits, and the counts are those of its blocks.
-- Assumes nothing.
use Prim.Native.Nat.{ℕ, ◌+◌, ◌≤◌}
use native.Mathlib.Omega.{arith}
use mathlib.Core.Path.{◌≡◌, refl, sym, ap, subst, ◌∙◌}
use mathlib.Core.Bool.{true, false}
use mathlib.Core.List.{List, [], ◌++◌}
use lib.Dec.{leb}
use lib.ListN.{length, take, drop, replicate, length-replicate}
use lib.Seq.{take_at}
use borrow.Author.Tests.{leb-true, eqb-true, eqb-false}
use Rattle.meaning.specs.declared.Answer.{Answer}
use Rattle.meaning.specs.Lists.{all}
use Rattle.meaning.specs.Gsi.{rate_of, is_rate, format_of, block_count, is_digit, tnb_field, tnb, file_rules, file_rule}
use Rattle.meaning.specs.Blocks.{gsi_size, blocks}
use Rattle.meaning.specs.Refusals.{is_good}
use Rattle.meaning.specs.Walk.{total, Subtitle, Progress, Outcome, walk, set_rule, with_subtitles, outcome}
use Rattle.meaning.specs.Walk.Outcome.{refused, accepted}
use Rattle.meaning.specs.Document.{render, document_spans}
use Rattle.meaning.specs.Conversion.{document_of, refused_answer, accepted_answer, answer_by, answer_to, answer, buffer_after, output}
use Rattle.std.proofs.lemmas.Bool.{and_parts}
use Rattle.meaning.proofs.Logic.{by_test}
use Rattle.meaning.proofs.ListLaws.{All, Any, any-blocks}
use Rattle.meaning.proofs.RefusalLaws.{unbroken, Known, broken-known}
use Rattle.laws.proofs.Gathering.{refused-not, finish-accepted}
use Rattle.laws.proofs.Walk.{WithinIf, walk-within, Held, Kept, walk_kept}

file-known : (mode : ℕ) (file : List ℕ) → is_good (file_rule mode file) ≡ false → Known (file_rule mode file)
unfolding file_rule file_rules
file-known mode file e = broken-known 0 _ (omega arith) e

module _ (Block : List ℕ → Type 0) (mode : ℕ) (file : List ℕ) (blocked : All Block (blocks (block_count file) (drop gsi_size file))) where
  pub outcome-kept : Kept Block (format_of mode file) (block_count file) (outcome mode file)
  unfolding outcome
  outcome-kept =
      by_test (is_good (file_rule mode file))
      (λ e. rw (e, outcome) (walk_kept Block (format_of mode file) file (block_count file) blocked))
      (λ e. rw (e, outcome) (file-known mode file e))

  -- an accepted file, with what is known of it and the answer and buffer that it gets
  pub record Accepted (buffer : List ℕ) : Type 0 where
    pub progress : Progress (List Subtitle)
    pub came : outcome mode file ≡ accepted progress
    pub held : Held Block (format_of mode file) (block_count file) progress
    pub answered :
        answer mode file (length buffer)
        ≡ accepted_answer (length (render (document_of (format_of mode file) progress.gathered))) progress.counts
        (document_spans (document_of (format_of mode file) progress.gathered).paragraphs)
    pub written :
        output mode file buffer
        ≡ render (document_of (format_of mode file) progress.gathered) ++ drop (length (render (document_of (format_of mode file) progress.gathered))) buffer
    pub fits : length (render (document_of (format_of mode file) progress.gathered)) ≤ length buffer

  -- an answer of 0 to an outcome
  accepted_by :
      (buffer : List ℕ) (o : Outcome (List Subtitle)) → outcome mode file ≡ o → Kept Block (format_of mode file) (block_count file) o
      → (answer_to (format_of mode file) (length buffer) o).number ≡ 0 → Accepted buffer
  unfolding answer_to answer_by buffer_after answer output refused_answer is_good
  accepted_by buffer (refused r) c h e = absurd (eqb-false r.number 0 h.bad e)
  accepted_by buffer (accepted p) c h e =
      by_test (leb (length (render (document_of (format_of mode file) p.gathered))) (length buffer))
      (λ f. record { progress = p; came = c; held = h; answered = rw (c, answer_to, answer_by, f); written = rw (c, buffer_after, f); fits = leb-true _ _ f })
      (λ f. let z : ◌≡◌ {A = ℕ} 16 0 = rw (f, answer_by, answer_to) at e in absurd (omega arith))

  pub accepted-file : (buffer : List ℕ) → (answer mode file (length buffer)).number ≡ 0 → Accepted buffer
  unfolding answer
  accepted-file buffer e = accepted_by buffer (outcome mode file) refl outcome-kept e

-- the rules 3 and 6 of an accepted file
module _ (mode : ℕ) (file : List ℕ) where
  pub rule-kept : (p : Progress (List Subtitle)) → outcome mode file ≡ accepted p → is_good (file_rule mode file) ≡ true
  unfolding outcome
  rule-kept p c = by_test (is_good (file_rule mode file)) (λ f. f) (λ f. absurd (refused-not (rw (f, outcome) at c)))

  -- and its walk
  pub walk_was :
      (p : Progress (List Subtitle)) → outcome mode file ≡ accepted p
      → (let f = format_of mode file in walk f (set_rule f) (with_subtitles f) [] file (block_count file)) ≡ accepted p
  unfolding outcome
  walk_was p c = finish-accepted (block_count file) _ p (rw (rule-kept p c, outcome) at c)

  pub rate-right : is_good (file_rule mode file) ≡ true → is_rate (rate_of file) ≡ true
  unfolding file_rule file_rules
  rate-right e =
      let r₁ = unbroken _ _ _ _ _ e in
      let r₂ = unbroken _ _ _ _ _ r₁.1 in
      (unbroken _ _ _ _ _ r₂.1).0

  pub tnb-right : is_good (file_rule mode file) ≡ true → (all is_digit (tnb_field file) ≡ true) × (tnb file ≡ block_count file)
  unfolding file_rule file_rules
  tnb-right e =
      let r₁ = unbroken _ _ _ _ _ e in
      let r₂ = unbroken _ _ _ _ _ r₁.1 in
      let r₃ = unbroken _ _ _ _ _ r₂.1 in
      let r₄ = unbroken _ _ _ _ _ r₃.1 in
      let r₅ = unbroken _ _ _ _ _ r₄.1 in
      let d = and_parts (all is_digit (tnb_field file)) _ (unbroken _ _ _ _ _ r₅.1).0 in
      (d.0, eqb-true (tnb file) (block_count file) d.1)

  counts_all : (p : Progress (List Subtitle)) → outcome mode file ≡ accepted p → total p.counts ≡ block_count file
  counts_all p c =
      let f = format_of mode file in
      let w : WithinIf (block_count file) (accepted p) = rw (walk_was p c) at (walk-within f (set_rule f) (with_subtitles f) [] file (block_count file)) in
      w.counts

  module _ (buffer : List ℕ) (e : (answer mode file (length buffer)).number ≡ 0) where
    pub taken : Accepted Any mode file (any-blocks _) buffer
    taken = accepted-file Any mode file (any-blocks _) buffer e

    -- the first four counts add up to the blocks of the file, and to TNB
    pub counts_add_up :
        (let a = answer mode file (length buffer) in a.subtitles + a.comments + a.continuations + a.users) ≡ block_count file
    unfolding accepted_answer total
    counts_add_up = rw taken.answered (counts_all taken.progress taken.came)

    pub counts_are_tnb :
        (let a = answer mode file (length buffer) in a.subtitles + a.comments + a.continuations + a.users) ≡ tnb file
    counts_are_tnb = counts_add_up ∙ sym (tnb-right (rule-kept taken.progress taken.came)).1

module _ {Block : List ℕ → Type 0} {mode : ℕ} {file : List ℕ} {h : All Block (blocks (block_count file) (drop gsi_size file))} {buffer : List ℕ} (t : Accepted Block mode file h buffer) where
  -- the length is that of the document
  pub length-is-document : (answer mode file (length buffer)).length ≡ length (render (document_of (format_of mode file) t.progress.gathered))
  unfolding accepted_answer
  length-is-document = ap (λ (a : Answer). a.length) t.answered

  -- the buffer begins with the document
  pub front-is-document :
      take (answer mode file (length buffer)).length (output mode file buffer) ≡ render (document_of (format_of mode file) t.progress.gathered)
  front-is-document = rw (length-is-document, t.written) (take_at _ _ _ refl)

-- an answer of 0 tells a length that there is room for
pub length-fits : (mode : ℕ) (file : List ℕ) (room : ℕ) {a : Answer} → a ≡ answer mode file room → a.number ≡ 0 → a.length ≤ room
length-fits mode file room e z =
    let l = length-replicate {A = ℕ} room 0 in
    let t = taken mode file (replicate room 0) (rw (l, sym e) z) in
    rw e (subst (λ (n : ℕ). (answer mode file n).length ≤ n) l (rw (length-is-document t) t.fits))
