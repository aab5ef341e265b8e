-- Files of open subtitles: either break mode reads as 1, and all cells are white on black, of single height.
-- Assumes nothing.
use Prim.Native.Nat.{ℕ}
use mathlib.Core.Path.{◌≡◌, refl, ap, ◌∙◌}
use mathlib.Core.Bool.{Bool, true, false, cond, not}
use mathlib.Core.List.{List, [], ◌∷◌, ◌++◌}
use Rattle.meaning.specs.declared.Token.{Token}
use Rattle.meaning.specs.declared.Token.TheVariants.{Character, Control, Switch, RowEnd, Unlisted}
use Rattle.meaning.specs.declared.Refusal.{Refusal}
use Rattle.meaning.specs.declared.Look.{Look}
use Rattle.meaning.specs.declared.Header.{Header}
use Rattle.meaning.specs.Lists.{all, any, take_while}
use Rattle.meaning.specs.Refusals.{no_refusal, is_good, first_broken}
use Rattle.meaning.specs.Codes.{tokens, is_listed, is_control_of, is_double_height, is_box_code}
use Rattle.meaning.specs.Rows.{in_row, first_row, is_double, breaks_paired, heights_right, rows_fit}
use Rattle.meaning.specs.TextRules.{breaks_rows, height_fault, row_fault, text_rules, text_rule}
use Rattle.meaning.specs.Looks.{white_on_black}
use Rattle.meaning.specs.Cells.{Cell, switched, look_here, look_next, hidden_if, cell_of, row_start}
use Rattle.meaning.specs.Gsi.{is_teletext, format_of, block_count, file_rules, file_rule}
use Rattle.meaning.specs.Blocks.{is_comment, subtitle_rules, first_block_rules}
use Rattle.meaning.specs.Sets.{BlockSet, opening, advance}
use Rattle.meaning.specs.Walk.{Subtitle, Outcome, finish, walk, set_rule, subtitle_of, subtitles_from, with_subtitles, outcome, subtitles_of}
use Rattle.meaning.specs.Walk.Outcome.{refused, accepted}
use Rattle.meaning.specs.Conversion.{paragraph_of, document_of, answer_to, answer, buffer_after, output}
use Rattle.laws.specs.OpenFiles.{NoBoxes, OneMode, is_white_on_black, is_plain, is_plain_cell, is_plain_subtitle, WhiteOnBlack}
use Rattle.std.proofs.lemmas.Bool.{and_parts, false≢true}
use Rattle.meaning.proofs.Logic.{by_test}
use Rattle.meaning.proofs.ListLaws.{Any, any-blocks, all_so, any-cons, test-nil, test_split, test-all, while_on, while_off}
use Rattle.meaning.proofs.RefusalLaws.{unbroken}
use Rattle.laws.proofs.Gathering.{mapped-same, walks_mapped}
use Rattle.laws.proofs.Walk.{Made, Kept}
use Rattle.laws.proofs.CellFacts.{Keeping, text_keeps}
use Rattle.laws.proofs.Accepted.{outcome-kept}

-- no control is listed for open subtitles
no_control : (code : ℕ) (t : Token) → is_listed false t ≡ true → is_control_of code t ≡ false
unfolding is_listed is_control_of
no_control code (Character p) e = refl
no_control code (Control c) e = absurd (false≢true e)
no_control code (Switch c) e = refl
no_control code RowEnd e = refl
no_control code Unlisted e = refl

-- so no row of a text within rule 13 holds a box code
pub no_boxes : NoBoxes
unfolding is_box_code
no_boxes [] e = unfold any in refl
no_boxes (t ∷ ts) e =
    let h = test_split (is_listed false) t ts e in
    rw (any-cons is_box_code t ts, no_control 11 t h.0, no_control 10 t h.0) (no_boxes ts h.1)

-- and the text is of single height
text-single : (ts : List Token) → all (is_listed false) ts ≡ true → is_double ts ≡ false
unfolding first_row
text-single [] e = unfold any take_while in refl
text-single (t ∷ ts) e =
    let h = test_split (is_listed false) t ts e in
    by_test (in_row t)
    (λ i. rw (while_on in_row t ts i, any-cons is_double_height t (take_while in_row ts), no_control 13 t h.0) (text-single ts h.1))
    (λ i. rw (while_off in_row t ts i) (unfold any in refl))

module _ (file : List ℕ) (o : is_teletext file ≡ false) where
  -- so row ends are paired in neither mode
  same_breaks : (ts : List Token) → all (is_listed (is_teletext file)) ts ≡ true → breaks_paired 2 ts ≡ breaks_paired 1 ts
  unfolding breaks_paired
  same_breaks ts e = text-single ts (rw o at e)

  -- nor is the screen another
  same_screen : (vp : ℕ) (double : Bool) → breaks_rows (format_of 2 file) vp double ≡ breaks_rows (format_of 1 file) vp double
  unfolding breaks_rows format_of
  same_screen vp double = refl

  -- the rules 13 to 15 tell the same
  same_text : (place vp : ℕ) (text : List ℕ) → text_rule (format_of 2 file) place vp text ≡ text_rule (format_of 1 file) place vp text
  unfolding text_rule text_rules format_of heights_right rows_fit height_fault row_fault first_broken
  same_text place vp text =
      by_test (all (is_listed (is_teletext file)) (tokens text)) (λ e. rw (same_breaks (tokens text) e, same_screen vp (is_double (tokens text)))) (λ e. rw (e, first_broken))

  same-rule : set_rule (format_of 2 file) ≡ set_rule (format_of 1 file)
  unfolding set_rule
  same-rule = λ i s. cond (is_comment s.first) no_refusal (same_text s.place s.first.vp s.text i)

  -- and a set that keeps them is the same subtitle
  same-subtitles : (s : BlockSet) → is_good (set_rule (format_of 1 file) s) ≡ true → subtitles_from (format_of 2 file) s ≡ subtitles_from (format_of 1 file) s
  unfolding subtitles_from set_rule text_rule text_rules format_of subtitle_of
  same-subtitles s g =
      by_test (is_comment s.first)
      (λ c. rw c)
      (λ c. rw (c, same_breaks (tokens s.text) (unbroken _ _ _ _ _ (rw c at g)).0))

  -- the rules over blocks do not read the mode
  same-walk :
      (let f = format_of 2 file in walk f (set_rule f) (with_subtitles f) [] file (block_count file))
      ≡ (let f = format_of 1 file in walk f (set_rule f) (with_subtitles f) [] file (block_count file))
  unfolding with_subtitles advance opening first_block_rules subtitle_rules format_of
  same-walk =
      let f = format_of 2 file in
      ap (λ (rule : BlockSet → Refusal). walk f rule (with_subtitles f) [] file (block_count file)) same-rule ∙ mapped-same _
      ∙ walks_mapped (λ x. x) f (set_rule (format_of 1 file)) (with_subtitles f) (with_subtitles (format_of 1 file))
      (λ s ss g. ap (λ (more : List Subtitle). ss ++ more) (same-subtitles s g))
      (format_of 1 file) (λ k b a. refl) [] file (block_count file)

  same_outcome : outcome 2 file ≡ outcome 1 file
  unfolding outcome file_rule file_rules
  same_outcome =
      by_test (is_good (file_rule 1 file)) (λ e. rw (e, outcome) (ap (finish (block_count file)) same-walk)) (λ e. rw (e, outcome))

  -- nor does the document that an outcome gives
  same_to : (room : ℕ) (w : Outcome (List Subtitle)) → answer_to (format_of 2 file) room w ≡ answer_to (format_of 1 file) room w
  unfolding answer_to document_of paragraph_of format_of
  same_to room (refused r) = refl
  same_to room (accepted p) = refl

  same_after : (buffer : List ℕ) (w : Outcome (List Subtitle)) → buffer_after (format_of 2 file) buffer w ≡ buffer_after (format_of 1 file) buffer w
  unfolding buffer_after document_of paragraph_of format_of
  same_after buffer (refused r) = refl
  same_after buffer (accepted p) = refl

  same_answer : (room : ℕ) → answer 2 file room ≡ answer 1 file room
  unfolding answer
  same_answer room = rw same_outcome (same_to room (outcome 1 file))

  same-output : (buffer : List ℕ) → output 2 file buffer ≡ output 1 file buffer
  unfolding output
  same-output buffer = rw same_outcome (same_after buffer (outcome 1 file))

  pub one-mode : OneMode file
  one-mode = record { answers = same_answer; outputs = same-output }

-- only a control changes colours, and none is listed for open subtitles
here-plain : (t : Token) (l : Look) → is_listed false t ≡ true → is_plain l ≡ true → is_plain (look_here t l) ≡ true
unfolding is_listed look_here
here-plain (Character p) l e h = h
here-plain (Control c) l e h = absurd (false≢true e)
here-plain (Switch c) l e h = h
here-plain RowEnd l e h = h
here-plain Unlisted l e h = h

next-plain : (t : Token) (l : Look) → is_listed false t ≡ true → is_plain l ≡ true → is_plain (look_next t l) ≡ true
unfolding is_listed look_next switched is_plain is_white_on_black
next-plain (Character p) l e h = h
next-plain (Control c) l e h = absurd (false≢true e)
next-plain (Switch c) l e h = h
next-plain RowEnd l e h = h
next-plain Unlisted l e h = h

shown-plain : (hidden : Bool) (c : Cell) → is_plain_cell c ≡ true → is_plain_cell (hidden_if hidden c) ≡ true
unfolding hidden_if is_plain_cell is_plain is_white_on_black white_on_black
shown-plain true c h = (and_parts (is_white_on_black c.look) (not c.look.double) h).1
shown-plain false c h = h

-- a row starts white on black, in the height before it
plain : Keeping (is_listed false) (λ l. not l.double ≡ true) (λ l. is_plain l ≡ true) (λ c. is_plain_cell c ≡ true)
unfolding is_listed cell_of row_start is_plain is_white_on_black is_plain_cell
plain =
    record {
      ends = refl;
      cell = λ t p e h. shown-plain p.hidden _ (here-plain t p.look e h);
      next = next-plain;
      start = λ r l h. h;
      left = λ l h. (and_parts (is_white_on_black l) (not l.double) h).1;
    }

text-plain : (mode : ℕ) (first : Header) (ts : List Token) → all (is_listed false) ts ≡ true → is_plain_subtitle (subtitle_of mode first ts) ≡ true
unfolding is_plain_subtitle subtitle_of white_on_black
text-plain mode first ts e =
    rw (text-single ts e)
    (test-all (all is_plain_cell) (all_so (λ r. test-all is_plain_cell) (text_keeps plain mode (white_on_black false) ts refl e)))

module _ (mode : ℕ) (file : List ℕ) (o : is_teletext file ≡ false) where
  made_plain : (s : Subtitle) → Made Any (format_of mode file) s → is_plain_subtitle s ≡ true
  unfolding text_rule text_rules format_of
  made_plain s m = rw m.made (text-plain mode s.first (tokens m.text) (rw o at (unbroken _ _ _ _ _ m.rule).0))

  kept-plain : (n : ℕ) (w : Outcome (List Subtitle)) → Kept Any (format_of mode file) n w → all is_plain_subtitle (subtitles_of w) ≡ true
  unfolding subtitles_of
  kept-plain n (refused r) k = test-nil is_plain_subtitle
  kept-plain n (accepted p) k = test-all is_plain_subtitle (all_so made_plain k.made)

  pub white-on-black : WhiteOnBlack mode file
  white-on-black = kept-plain (block_count file) (outcome mode file) (outcome-kept Any mode file (any-blocks _))
