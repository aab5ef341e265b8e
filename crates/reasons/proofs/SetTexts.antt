-- What is known of a set while a file is walked: its text is that of the blocks from its first on, and a subtitle's first line is on the screen.
-- Assumes nothing.
use Prim.Native.Nat.{ℕ, zero, suc, ◌-◌, ◌<◌}
use native.Mathlib.Omega.{arith}
use native.Mathlib.Numerals.{add-one}
use mathlib.Core.Path.{◌≡◌, refl, sym, subst, ◌∙◌}
use mathlib.Core.Bool.{true, false}
use mathlib.Core.List.{List, append-nil}
use mathlib.Core.Option.{none, some}
use lib.Dec.{leb, eqb}
use borrow.Author.Tests.{ltb-true}
use Rattle.meaning.specs.declared.Header.{Header}
use Rattle.meaning.specs.declared.Counts.{Counts}
use Rattle.meaning.specs.declared.Format.{Format}
use Rattle.meaning.specs.declared.Refusal.{Refusal}
use Rattle.meaning.specs.Refusals.{is_good}
use Rattle.meaning.specs.Blocks.{block_at, header_of, block_text, blocks, time_rules, times_rules, is_comment, on_screen, subtitle_rules, first_block_rules}
use Rattle.meaning.specs.Sets.{BlockSet, Assembly, Event, no_blocks, close_at_last, opening, continuing, is_user, advance}
use Rattle.meaning.specs.Sets.Event.{broken, pending, closed}
use Rattle.meaning.specs.Walk.{Progress, Outcome, begun, judge, step, steps, walk}
use Rattle.meaning.specs.Walk.Outcome.{refused, accepted}
use Rattle.meaning.specs.Reasons.{text_at}
use Rattle.std.proofs.lemmas.Bool.{and_parts}
use mathlib.Core.Option.{none-ne-some}
use Rattle.meaning.proofs.Logic.{by_test, by_option}
use Rattle.meaning.proofs.RefusalLaws.{Holds, unbroken, unbroken-all}
use Rattle.laws.proofs.Walk.{by_rules}
use Rattle.laws.proofs.Steps.{walk_more}
use Rattle.reasons.proofs.BlockTexts.{texts, texts-more, texts-none, text_of_block}

-- a set after n blocks
pub record Known (file : List ℕ) (f : Format) (n : ℕ) (s : BlockSet) : Type 0 where
  pub begun : s.place < n
  pub text : s.text ≡ texts file (n - s.place) s.place
  pub line : is_comment s.first ≡ false → s.first.vp < f.screen.end

-- rule 12
subtitle-line : (f : Format) (place : ℕ) (h : Header) → Holds place (subtitle_rules f h) → h.vp < f.screen.end
unfolding subtitle_rules times_rules time_rules on_screen
subtitle-line f place h e =
    let times = (unbroken _ _ _ _ _ e).1 in
    let rest = (unbroken-all place (times_rules f.rate h.tci h.tco) _ (omega arith) times).1 in
    ltb-true _ _ (and_parts (leb f.screen.first h.vp) _ (unbroken _ _ _ _ _ rest).0).1

line_kept : (f : Format) (place least : ℕ) (h : Header) → Holds place (first_block_rules f least h) → is_comment h ≡ false → h.vp < f.screen.end
unfolding first_block_rules
line_kept f place least h e c = subtitle-line f place h (rw c at (unbroken _ _ _ _ _ (unbroken _ _ _ _ _ e).1).1)

module _ (file : List ℕ) (f : Format) where
  abbrev pub KnownIn : ℕ → Assembly → Type 0
  KnownIn n a = (s : BlockSet) → a.current ≡ some s → Known file f n s

  -- after block k
  abbrev pub KnownAfter : ℕ → Event → Type 0
  KnownAfter n (broken r) = Unit {0}
  KnownAfter n (pending a) = KnownIn n a
  KnownAfter n (closed s a) = Known file f n s × (a.current ≡ none)

  last-known : (n : ℕ) (s : BlockSet) (least : ℕ) → Known file f n s → KnownAfter n (close_at_last s least)
  unfolding close_at_last
  last-known n s least h =
      by_test (eqb s.last 255)
      (λ t. rw (t, close_at_last) (h, refl))
      (λ t. rw (t, close_at_last) (λ q g. (let z : s ≡ q = cc in subst (Known file f n) z h)))

  -- user data has no text
  user-known : (k : ℕ) (s : BlockSet) → is_user (header_of (block_at file k)) ≡ true → Known file f k s → Known file f (suc k) s
  unfolding text_at
  user-known k s u h =
      let b = h.begun in
      record {
        begun = omega arith;
        text = h.text ∙ sym (texts-more file k s.place (omega arith) ∙ rw u (append-nil _));
        line = h.line;
      }

  module _ (k : ℕ) (u : is_user (header_of (block_at file k)) ≡ false) where
    opening-known : (least : ℕ) → KnownAfter (suc k) (opening f k (header_of (block_at file k)) (block_text (block_at file k)) least)
    unfolding opening
    opening-known least =
        by_rules (KnownAfter (suc k)) k _ _
        (λ t.
        last-known (suc k) _ _
        (record {
          begun = omega arith;
          text = sym (texts-more file k k (omega arith) ∙ rw (texts-none file k, text_of_block file k u));
          line = line_kept f k least (header_of (block_at file k)) (unbroken _ _ _ _ _ t).1;
        }))
        (λ t. tt)

    continuing-known : (least : ℕ) (s : BlockSet) → Known file f k s → KnownAfter (suc k) (continuing k (header_of (block_at file k)) (block_text (block_at file k)) s least)
    unfolding continuing
    continuing-known least s h =
        let b = h.begun in
        by_rules (KnownAfter (suc k)) k _ _
        (λ t.
        last-known (suc k) _ _
        (record {
          begun = omega arith;
          text = sym (texts-more file k s.place (omega arith) ∙ rw (← h.text, text_of_block file k u));
          line = h.line;
        }))
        (λ t. tt)

  pub advance-known : (k : ℕ) (a : Assembly) → KnownIn k a → KnownAfter (suc k) (advance f k (block_at file k) a)
  unfolding advance
  advance-known k a h =
      by_test (is_user (header_of (block_at file k)))
      (λ u. rw (u, advance) (λ s g. user-known k s u (h s g)))
      (λ u. by_option a.current (λ g. rw (u, g, advance) (opening-known k u a.least)) (λ s g. rw (u, g, advance) (continuing-known k u a.least s (h s g))))

  -- the open set after n blocks
  abbrev KnownSo : {A : Type 0} → ℕ → Outcome A → Type 0
  KnownSo n (refused r) = Unit {0}
  KnownSo n (accepted p) = KnownIn n p.assembly

  module _ {A : Type 0} (rule : BlockSet → Refusal) (add : BlockSet → A → A) where
    judge-known : (n : ℕ) (c : Counts) (x : A) (e : Event) → KnownAfter n e → KnownSo n (judge f rule add c x e)
    unfolding judge
    judge-known n c x (broken r) h = tt
    judge-known n c x (pending a) h = h
    judge-known n c x (closed s a) h =
        by_test (is_good (rule s)) (λ g. rw (g, judge) (λ q z. absurd (none-ne-some _ (sym h.1 ∙ z)))) (λ g. rw (g, judge) tt)

    step-known : (k : ℕ) (o : Outcome A) → KnownSo k o → KnownSo (suc k) (step f rule add k o (block_at file k))
    unfolding step
    step-known k (refused r) h = tt
    step-known k (accepted p) h = judge-known (suc k) _ p.gathered _ (advance-known k p.assembly h)

    walk-known : (x : A) (n : ℕ) → KnownSo n (walk f rule add x file n)
    walk-known x zero = unfold walk steps begun no_blocks blocks in (λ s g. absurd (none-ne-some _ g))
    walk-known x (suc n) = rw (← add-one n, walk_more f rule add x file n, add-one n) (step-known n (walk f rule add x file n) (walk-known x n))

    pub walked-known : (x : A) (n : ℕ) (p : Progress A) → walk f rule add x file n ≡ accepted p → KnownIn n p.assembly
    walked-known x n p e = rw e at (walk-known x n)
