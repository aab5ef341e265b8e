-- The search for the first token of a text that breaks a rule.
-- Assumes nothing.
use Prim.Native.Nat.{ℕ, ◌≤◌}
use native.Mathlib.Omega.{arith}
use mathlib.Core.Path.{◌≡◌, refl, sym, ap, ◌∙◌}
use mathlib.Core.Bool.{Bool, true, false, not}
use mathlib.Core.List.{List, [], ◌∷◌}
use lib.ListN.{length, drop}
use Rattle.meaning.specs.declared.Token.{Token}
use Rattle.meaning.specs.Codes.{tokens, is_listed}
use Rattle.meaning.specs.TextRules.{before_fault, breaks_codes, bytes_before, code_fault}
use Rattle.meaning.proofs.TextPlaces.{bytes_next}
use Rattle.charset.specs.declared.Reading.{Reading}
use Rattle.charset.proofs.Laws.{ReadOn, tokens-end}
use Rattle.faults.proofs.Passing.{Passed, passed_start, passed-found, passed-more, passed-end}

-- position i of a text is reached, and none of the tokens before it breaks the rule
pub record Reached (breaks : List Token → Token → List Token → Bool) (s : List ℕ) (past : List Token) (i : ℕ) : Type 0 where
  pub place : i ≡ bytes_before (length past) s
  pub passed : Passed breaks (tokens s) past (tokens (drop i s))
  pub within : i ≤ length s

module _ {breaks : List Token → Token → List Token → Bool} where
  pub reached-start : {s : List ℕ} → Reached breaks s [] 0
  unfolding bytes_before
  reached-start = record { place = refl; passed = passed_start; within = omega arith }

  module _ {s : List ℕ} {past : List Token} {i : ℕ} (l : Reached breaks s past i) where
    module _ {r : Reading} (o : ReadOn s i r) where
      pub reached-found : breaks past r.token (tokens (drop r.next s)) ≡ true → i ≡ bytes_before (before_fault breaks [] (tokens s)) s
      reached-found e = l.place ∙ ap (λ (n : ℕ). bytes_before n s) (passed-found l.passed o.first e)

      pub reached-more : breaks past r.token (tokens (drop r.next s)) ≡ false → Reached breaks s (r.token ∷ past) r.next
      reached-more e =
          record { place = rw (o.size, l.place) (sym (bytes_next (length past) s)); passed = passed-more l.passed o.first e; within = o.within }

    pub reached-end : length s ≤ i → length s ≡ bytes_before (before_fault breaks [] (tokens s)) s
    reached-end h =
        let e : length s ≡ i = omega (arith, l.within) in
        e ∙ l.place ∙ ap (λ (n : ℕ). bytes_before n s) (passed-end l.passed (tokens-end s i h))

-- the codes before position i are listed
pub record CodesLeft (teletext : Bool) (s : List ℕ) (i : ℕ) : Type 0 where
  pub past : List Token
  pub reached : Reached (breaks_codes teletext) s past i

pub codes-start : (teletext : Bool) (s : List ℕ) → CodesLeft teletext s 0
codes-start teletext s = record { past = []; reached = reached-start }

module _ {teletext : Bool} {s : List ℕ} {i : ℕ} (l : CodesLeft teletext s i) where
  module _ {r : Reading} {listed : Bool} (o : ReadOn s i r) (q : listed ≡ is_listed teletext r.token) where
    pub codes-found : not listed ≡ true → i ≡ code_fault teletext s
    unfolding code_fault breaks_codes
    codes-found e = reached-found l.reached o (rw q at e)

    pub codes-more : not listed ≡ false → CodesLeft teletext s r.next
    unfolding breaks_codes
    codes-more e = record { past = r.token ∷ l.past; reached = reached-more l.reached o (rw q at e) }

  pub codes-end : length s ≤ i → length s ≡ code_fault teletext s
  unfolding code_fault
  codes-end h = reached-end l.reached h
