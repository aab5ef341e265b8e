-- A test that row ends pass tells the same of a text's tokens and of its rows.
-- Assumes nothing.
use mathlib.Core.Path.{◌≡◌, refl, ◌∙◌}
use mathlib.Core.Bool.{Bool, true, false, ◌&&◌, and_assoc}
use mathlib.Core.List.{List, [], ◌∷◌}
use Rattle.meaning.specs.declared.Token.{Token}
use Rattle.meaning.specs.declared.Token.TheVariants.{Character, Control, Switch, RowEnd, Unlisted}
use Rattle.meaning.specs.Lists.{all, onto_first}
use Rattle.meaning.specs.Codes.{is_row_end}
use Rattle.meaning.specs.Rows.{split_rows, paired_from, rows_of}
use Rattle.std.proofs.lemmas.Bool.{false≢true}
use Rattle.meaning.proofs.Logic.{by_test}
use Rattle.meaning.proofs.ListLaws.{all_cons, test-nil}

is-end : (t : Token) → is_row_end t ≡ true → t ≡ RowEnd
unfolding is_row_end
is-end (Character p) e = absurd (false≢true e)
is-end (Control c) e = absurd (false≢true e)
is-end (Switch c) e = absurd (false≢true e)
is-end RowEnd e = refl
is-end Unlisted e = absurd (false≢true e)

module _ (p : Token → Bool) (ends : p RowEnd ≡ true) where
  -- a row end in front changes nothing, and another token the same
  past_end : (t : Token) (ts : List Token) → is_row_end t ≡ true → all p (t ∷ ts) ≡ all p ts
  past_end t ts e = rw (all_cons p t ts, is-end t e, ends)

  both-more : (t : Token) (ts us : List Token) → all p ts ≡ all p us → all p (t ∷ ts) ≡ all p (t ∷ us)
  both-more t ts us e = rw (all_cons p t ts, all_cons p t us, e)

  onto_tested : (t : Token) (rs : List (List Token)) → all (all p) (onto_first t rs) ≡ (p t && all (all p) rs)
  unfolding onto_first
  onto_tested t [] = rw (all_cons (all p) (t ∷ []) [], all_cons p t [], test-nil p, test-nil (all p)) (and_assoc (p t) true true)
  onto_tested t (r ∷ rs) = rw (all_cons (all p) (t ∷ r) rs, all_cons p t r, all_cons (all p) r rs) (and_assoc (p t) (all p r) (all (all p) rs))

  split_tested : (ts : List Token) → all (all p) (split_rows ts) ≡ all p ts
  unfolding split_rows
  split_tested [] = unfold all in refl
  split_tested (t ∷ ts) =
      by_test (is_row_end t)
      (λ e. rw (e, split_rows, past_end t ts e, all_cons (all p) [] (split_rows ts), test-nil p) (split_tested ts))
      (λ e. rw (e, split_rows, all_cons p t ts, onto_tested t (split_rows ts), split_tested ts))

  paired_tested : (second : Bool) (ts : List Token) → all p (paired_from second ts) ≡ all p ts
  unfolding paired_from
  paired_tested second [] = refl
  paired_tested true (t ∷ ts) =
      by_test (is_row_end t)
      (λ e. rw (e, paired_from, past_end t ts e) (paired_tested false ts))
      (λ e. rw (e, paired_from) (both-more t _ _ (paired_tested false ts)))
  paired_tested false (t ∷ ts) =
      by_test (is_row_end t)
      (λ e. rw (e, paired_from) (both-more t _ _ (paired_tested true ts)))
      (λ e. rw (e, paired_from) (both-more t _ _ (paired_tested false ts)))

  pub rows-tested : (paired : Bool) (ts : List Token) → all (all p) (rows_of paired ts) ≡ all p ts
  unfolding rows_of
  rows-tested true ts = split_tested (paired_from false ts) ∙ paired_tested false ts
  rows-tested false ts = split_tested ts
