-- What is known of a file that the walk accepts: its blocks are counted, its open set is of bounded size, its subtitles keep the rules and
-- are no more than the blocks, their SNs ascend. A refusal has a number from 1 to 15.
-- Assumes nothing.
use Prim.Native.Nat.{ℕ, suc, ◌+◌, ◌*◌, ◌≤◌, ◌<◌}
use native.Mathlib.Omega.{arith}
use mathlib.Core.Path.{◌≡◌, refl, sym, ap, subst, ◌∙◌}
use mathlib.Core.Bool.{Bool, true, false}
use mathlib.Core.List.{List, [], ◌∷◌, ◌++◌, append-nil}
use mathlib.Core.Logic.{⊎_elim}
use mathlib.Core.Option.{none, some}
use lib.Dec.{eqb, ltb}
use lib.ListN.{length, drop, length-append}
use borrow.Author.Tests.{leb-true, ltb-true, eqb-true, eqb-false}
use Rattle.meaning.specs.declared.Refusal.{Refusal}
use Rattle.meaning.specs.declared.Counts.{Counts}
use Rattle.meaning.specs.declared.Header.{Header}
use Rattle.meaning.specs.declared.Format.{Format}
use Rattle.meaning.specs.Refusals.{Rule, no_refusal, is_good, first_broken}
use Rattle.meaning.specs.Codes.{tokens}
use Rattle.meaning.specs.TextRules.{text_rules, text_rule}
use Rattle.meaning.specs.Blocks.{gsi_size, text_size, blocks, header_of, block_text, is_comment, first_block_rules}
use Rattle.meaning.specs.Sets.{BlockSet, Assembly, Event, no_blocks, unless, close_at_last, begins, opening, goes_on, agreement_rules, continuing, is_user, advance}
use Rattle.meaning.specs.Sets.Event.{broken, pending, closed}
use Rattle.meaning.specs.Walk.{no_counts, total, counted, is_open, begun, Progress, Outcome, finish, judge, step, walk, set_rule, Subtitle, subtitle_of, subtitles_from, with_subtitles}
use Rattle.meaning.specs.Walk.Outcome.{refused, accepted}
use Rattle.std.proofs.lemmas.Bool.{and_parts, false≢true, or_cases}
use mathlib.Core.Option.{none-ne-some}
use Rattle.meaning.proofs.Logic.{by_test, by_option}
use Rattle.meaning.proofs.ListLaws.{All, all_append, Any, any-blocks}
use Rattle.meaning.proofs.ListLaws.All.{nil, cons}
use Rattle.meaning.proofs.RefusalLaws.{Holds, unbroken, Known, first_numbered, broken-known}
use Rattle.meaning.proofs.Texts.{text-short}
use Rattle.laws.proofs.Steps.{blocks-length, steps-keep}

-- each block raises one of the four counts
pub total-counted : (in_set : Bool) (h : Header) (c : Counts) → total (counted in_set h c) ≡ suc (total c)
unfolding total counted
total-counted in_set h c =
    by_test (is_user h)
    (λ u. rw u (omega arith))
    (λ u. by_test in_set (λ i. rw (u, i) (omega arith)) (λ i. by_test (is_comment h) (λ k. rw (u, i, k) (omega arith)) (λ k. rw (u, i, k) (omega arith))))

-- a set that can go on, after n blocks: its text is that of blocks 00h to its last, which are no more than n
pub record Short (n : ℕ) (s : BlockSet) : Type 0 where
  pub size : length s.text ≤ text_size * suc s.last
  pub last : s.last < 240
  pub few : s.last < n

-- a set's first header: of one of the file's blocks, and within the rules 8 to 12
pub record Opened (Block : List ℕ → Type 0) (f : Format) (first : Header) : Type 0 where
  pub bytes : List ℕ
  pub block : Block bytes
  pub header : first ≡ header_of bytes
  pub place : ℕ
  pub least : ℕ
  pub rules : Holds place (first_block_rules f least first)

-- a subtitle: of a set with such a header, and of a text within the rules 13 to 15
pub record Made (Block : List ℕ → Type 0) (f : Format) (s : Subtitle) : Type 0 where
  pub opened : Opened Block f s.first
  pub subtitle : is_comment s.first ≡ false
  pub text : List ℕ
  pub place : ℕ
  pub rule : is_good (text_rule f place s.first.vp text) ≡ true
  pub made : s ≡ subtitle_of f.mode s.first (tokens text)

-- SNs ascend from one bound to another
abbrev pub Ascends : ℕ → List Subtitle → ℕ → Type 0
Ascends lo [] hi = lo ≤ hi
Ascends lo (s ∷ ss) hi = (lo ≤ s.first.sn) × Ascends (suc s.first.sn) ss hi

ascends_last :
    (lo : ℕ) (ss : List Subtitle) (s : Subtitle) (hi : ℕ) → Ascends lo ss s.first.sn → suc s.first.sn ≤ hi
    → Ascends lo (ss ++ (s ∷ [])) hi
ascends_last lo [] s hi a l = (a, l)
ascends_last lo (t ∷ ss) s hi a l = (a.0, ascends_last (suc t.first.sn) ss s hi a.1 l)

ascends_more : (lo : ℕ) (ss : List Subtitle) (h hi : ℕ) → Ascends lo ss h → h ≤ hi → Ascends lo ss hi
ascends_more lo [] h hi a l = omega arith
ascends_more lo (t ∷ ss) h hi a l = (a.0, ascends_more (suc t.first.sn) ss h hi a.1 l)

-- rule 9
least_kept : (f : Format) (place least : ℕ) (h : Header) → Holds place (first_block_rules f least h) → least ≤ h.sn
unfolding first_block_rules
least_kept f place least h e = leb-true least h.sn (unbroken _ _ _ _ _ (unbroken _ _ _ _ _ e).1).0

text-known : (f : Format) (s : BlockSet) → is_good (set_rule f s) ≡ false → Known (set_rule f s)
unfolding set_rule text_rule text_rules no_refusal is_good
text-known f s e =
    by_test (is_comment s.first)
    (λ c. absurd (false≢true (sym (rw c at e))))
    (λ c. rw c (broken-known s.place _ (omega arith) (rw c at e)))

-- what follows a test of rules
pub by_rules :
    (G : Event → Type 0) (place : ℕ) (rs : List Rule) (e : Event) → (Holds place rs → G e)
    → (is_good (first_broken place rs) ≡ false → G (broken (first_broken place rs))) → G (unless (first_broken place rs) e)
unfolding unless
by_rules G place rs e f g = by_test (is_good (first_broken place rs)) (λ t. rw (t, unless) (f t)) (λ t. rw (t, unless) (g t))

-- a block that breaks a rule tells which
abbrev Tells : Event → Type 0
Tells (broken r) = is_good r ≡ false
Tells (pending a) = Unit {0}
Tells (closed s a) = Unit {0}

last_tells : (s : BlockSet) (least : ℕ) → Tells (close_at_last s least)
unfolding close_at_last
last_tells s least = by_test (eqb s.last 255) (λ t. rw (t, close_at_last) tt) (λ t. rw (t, close_at_last) tt)

advance_tells : (f : Format) (place : ℕ) (b : List ℕ) (a : Assembly) → Tells (advance f place b a)
unfolding advance opening continuing
advance_tells f place b a =
    by_test (is_user (header_of b))
    (λ u. rw (u, advance) tt)
    (λ u.
    by_option a.current
    (λ g. rw (u, g, advance) (by_rules Tells place _ _ (λ t. last_tells _ _) (λ t. t)))
    (λ s g. rw (u, g, advance) (by_rules Tells place _ _ (λ t. last_tells _ _) (λ t. t))))

pub broken-bad : (f : Format) (place : ℕ) (b : List ℕ) (a : Assembly) {r : Refusal} → advance f place b a ≡ broken r → is_good r ≡ false
broken-bad f place b a e = rw e at (advance_tells f place b a)

-- the set that stays open after n blocks is short
abbrev pub Bounded : ℕ → Assembly → Type 0
Bounded n a = (s : BlockSet) → a.current ≡ some s → Short n s

abbrev pub BoundedAfter : ℕ → Event → Type 0
BoundedAfter n (broken r) = Unit {0}
BoundedAfter n (pending a) = Bounded n a
BoundedAfter n (closed s a) = a.current ≡ none

pub bounded_more : {n : ℕ} (a : Assembly) → Bounded n a → Bounded (suc n) a
bounded_more a h s g = let q = h s g in record { size = q.size; last = q.last; few = omega (arith, q.few) }

last_fits : (n : ℕ) (s : BlockSet) (least : ℕ) → ((s.last ≡ 255 → ⊥) → Short n s) → BoundedAfter n (close_at_last s least)
unfolding close_at_last
last_fits n s least h =
    by_test (eqb s.last 255)
    (λ t. rw (t, close_at_last) refl)
    (λ t. rw (t, close_at_last) (λ q g. (let z : s ≡ q = cc in subst (Short n) z (h (eqb-false s.last 255 t)))))

-- one block more: its place is the number of those before it
module _ (f : Format) (place : ℕ) (b : List ℕ) where
  opening-fits : (least : ℕ) → BoundedAfter (suc place) (opening f place (header_of b) (block_text b) least)
  unfolding opening begins
  opening-fits least =
      by_rules (BoundedAfter (suc place)) place _ _
      (λ t.
      last_fits _ _ _
      (λ n.
      let o = ⊎_elim (λ z. eqb-true (header_of b).ebn 0 z) (λ z. absurd (n (eqb-true (header_of b).ebn 255 z))) (or_cases _ _ (unbroken _ _ _ _ _ t).0) in
      record { size = omega (arith, text-short b); last = omega (arith, o); few = omega (arith, o) }))
      (λ t. tt)

  continuing-fits : (least : ℕ) (s : BlockSet) → Short place s → BoundedAfter (suc place) (continuing place (header_of b) (block_text b) s least)
  unfolding continuing goes_on
  continuing-fits least s h =
      by_rules (BoundedAfter (suc place)) place _ _
      (λ t.
      last_fits _ _ _
      (λ n.
      let o : (eqb (header_of b).ebn (suc s.last) ≡ true) × (ltb (header_of b).ebn 240 ≡ true) =
      ⊎_elim (λ z. absurd (n (eqb-true (header_of b).ebn 255 z))) (λ z. and_parts _ _ z) (or_cases _ _ (unbroken _ _ _ _ _ t).0)
      in
      let next = eqb-true (header_of b).ebn (suc s.last) o.0 in
      record {
        size = simp length-append (omega (arith, text-short b, h.size, next));
        last = ltb-true (header_of b).ebn 240 o.1;
        few = omega (arith, h.few, next);
      }))
      (λ t. tt)

  pub advance-fits : (a : Assembly) → Bounded place a → BoundedAfter (suc place) (advance f place b a)
  unfolding advance
  advance-fits a h =
      by_test (is_user (header_of b))
      (λ u. rw (u, advance) (bounded_more a h))
      (λ u. by_option a.current (λ g. rw (u, g, advance) (opening-fits a.least)) (λ s g. rw (u, g, advance) (continuing-fits a.least s (h s g))))

-- after n blocks, whatever is gathered: they are counted, and the set that is open is short
pub record Within {A : Type 0} (n : ℕ) (p : Progress A) : Type 0 where
  pub counts : total p.counts ≡ n
  pub fits : Bounded n p.assembly

abbrev pub WithinIf : {A : Type 0} → ℕ → Outcome A → Type 0
WithinIf n (refused r) = Unit {0}
WithinIf n (accepted p) = Within n p

module _ {A : Type 0} (f : Format) (rule : BlockSet → Refusal) (add : BlockSet → A → A) where
  judge-within : (n : ℕ) (c : Counts) (x : A) (e : Event) → total c ≡ n → BoundedAfter n e → WithinIf n (judge f rule add c x e)
  unfolding judge
  judge-within n c x (broken r) t h = tt
  judge-within n c x (pending a) t h = record { counts = t; fits = h }
  judge-within n c x (closed s a) t h =
      by_test (is_good (rule s))
      (λ g. rw (g, judge) (record { counts = t; fits = λ q z. absurd (none-ne-some _ (sym h ∙ z)) }))
      (λ g. rw (g, judge) tt)

  pub step-within : (k : ℕ) (o : Outcome A) (b : List ℕ) → Unit {0} → WithinIf k o → WithinIf (suc k) (step f rule add k o b)
  unfolding step
  step-within k (refused r) b u h = tt
  step-within k (accepted p) b u h =
      judge-within (suc k) _ p.gathered _
      (total-counted (is_open p.assembly) (header_of b) p.counts ∙ ap suc h.counts)
      (advance-fits f k b p.assembly h.fits)

  pub start-within : (x : A) → Within 0 (begun x)
  unfolding begun no_blocks total no_counts
  start-within x = record { counts = refl; fits = λ s g. absurd (none-ne-some _ g) }

  pub walk-within : (x : A) (file : List ℕ) (n : ℕ) → WithinIf n (walk f rule add x file n)
  unfolding walk
  walk-within x file n =
      let z : 0 + length (blocks n (drop gsi_size file)) ≡ n = omega (arith, blocks-length n (drop gsi_size file)) in
      rw z at (steps-keep f rule add Any WithinIf step-within 0 (accepted (begun x)) (blocks n (drop gsi_size file)) (any-blocks _) (start-within x))

module _ (Block : List ℕ → Type 0) (f : Format) where
  -- a set: the subtitles before it are below it, and it is below what comes next
  pub record Open (ss : List Subtitle) (least : ℕ) (s : BlockSet) : Type 0 where
    pub opened : Opened Block f s.first
    pub above : Ascends 0 ss s.first.sn
    pub below : suc s.first.sn ≤ least

  pub record Ready (ss : List Subtitle) (a : Assembly) : Type 0 where
    pub current : (s : BlockSet) → a.current ≡ some s → Open ss a.least s
    pub order : Ascends 0 ss a.least

  -- after n blocks
  pub record Held (n : ℕ) (p : Progress (List Subtitle)) : Type 0 where
    pub few : length p.gathered ≤ n
    pub made : All (Made Block f) p.gathered
    pub ready : Ready p.gathered p.assembly

  -- a refusal is known; else the invariant holds
  abbrev pub Kept : ℕ → Outcome (List Subtitle) → Type 0
  Kept n (refused r) = Known r
  Kept n (accepted p) = Held n p

  -- what an event keeps, behind the subtitles before
  abbrev Moved : List Subtitle → Event → Type 0
  Moved ss (broken r) = Known r
  Moved ss (pending a) = Ready ss a
  Moved ss (closed s a) = Open ss a.least s × (a.current ≡ none)

  last-kept : (ss : List Subtitle) (s : BlockSet) (least : ℕ) → Open ss least s → Moved ss (close_at_last s least)
  unfolding close_at_last
  last-kept ss s least o =
      by_test (eqb s.last 255)
      (λ e. rw (e, close_at_last) (o, refl))
      (λ e.
      rw (e, close_at_last)
      (record {
        current = λ q g. (let z : s ≡ q = cc in subst (λ (x : BlockSet). Open ss least x) z o);
        order = ascends_more 0 ss _ _ o.above (omega (arith, o.below));
      }))

  module _ (place : ℕ) (b : List ℕ) (k : Block b) (ss : List Subtitle) (a : Assembly) (h : Ready ss a) where
    opening-kept : Moved ss (opening f place (header_of b) (block_text b) a.least)
    unfolding opening
    opening-kept =
        by_rules (Moved ss) place _ _
        (λ t.
        let r = (unbroken _ _ _ _ _ t).1 in
        last-kept ss _ _
        (record {
          opened = record { bytes = b; block = k; header = refl; place = place; least = a.least; rules = r };
          above = ascends_more 0 ss _ _ h.order (least_kept f place a.least (header_of b) r);
          below = omega arith;
        }))
        (λ t. broken-known place _ (omega arith, omega arith, first_numbered f a.least (header_of b)) t)

    continuing-kept : (s : BlockSet) → Open ss a.least s → Moved ss (continuing place (header_of b) (block_text b) s a.least)
    unfolding continuing agreement_rules
    continuing-kept s o =
        by_rules (Moved ss) place _ _
        (λ t. last-kept ss _ _ (record { opened = o.opened; above = o.above; below = o.below }))
        (λ t. broken-known place _ (omega arith) t)

    advance-kept : Moved ss (advance f place b a)
    unfolding advance
    advance-kept =
        by_test (is_user (header_of b))
        (λ u. rw (u, advance) h)
        (λ u. by_option a.current (λ g. rw (u, g, advance) opening-kept) (λ s g. rw (u, g, advance) (continuing-kept s (h.current s g))))

  -- the subtitles that a closed set within the rules leaves
  closed-held :
      (n : ℕ) (c : Counts) (ss : List Subtitle) (s : BlockSet) (a : Assembly) → length ss < n → All (Made Block f) ss → Open ss a.least s
      → a.current ≡ none → is_good (set_rule f s) ≡ true
      → Held n (record { assembly = a; counts = c; gathered = with_subtitles f s ss })
  unfolding with_subtitles set_rule subtitles_from subtitle_of
  closed-held n c ss s a l m o e r =
      by_test (is_comment s.first)
      (λ k.
      rw (k, append-nil ss)
      (record {
        few = omega arith;
        made = m;
        ready = record { current = λ q g. absurd (none-ne-some _ (sym e ∙ g)); order = ascends_more 0 ss _ _ o.above (omega (arith, o.below)) };
      }))
      (λ k.
      rw k
      (record {
        few = simp length-append (omega arith);
        made = all_append m (cons (record { opened = o.opened; subtitle = k; text = s.text; place = s.place; rule = rw k at r; made = refl }) nil);
        ready = record { current = λ q g. absurd (none-ne-some _ (sym e ∙ g)); order = ascends_last 0 ss _ a.least o.above o.below };
      }))

  judge-kept :
      (n : ℕ) (c : Counts) (ss : List Subtitle) (e : Event) → length ss < n → All (Made Block f) ss → Moved ss e
      → Kept n (judge f (set_rule f) (with_subtitles f) c ss e)
  unfolding judge
  judge-kept n c ss (broken r) l m h = h
  judge-kept n c ss (pending a) l m h = record { few = omega arith; made = m; ready = h }
  judge-kept n c ss (closed s a) l m h =
      by_test (is_good (set_rule f s)) (λ g. rw (g, judge) (closed-held n c ss s a l m h.0 h.1 g)) (λ g. rw (g, judge) (text-known f s g))

  step_kept :
      (k : ℕ) (o : Outcome (List Subtitle)) (b : List ℕ) → Block b → Kept k o → Kept (suc k) (step f (set_rule f) (with_subtitles f) k o b)
  unfolding step
  step_kept k (refused r) b c h = h
  step_kept k (accepted p) b c h =
      judge-kept (suc k) _ p.gathered _ (omega (arith, h.few)) h.made (advance-kept k b c p.gathered p.assembly h.ready)

  finish-kept : (n : ℕ) (o : Outcome (List Subtitle)) → Kept n o → Kept n (finish n o)
  unfolding finish is_good
  finish-kept n (refused r) h = h
  finish-kept n (accepted p) h =
      by_test (is_open p.assembly) (λ e. rw (e, finish) (record { bad = refl; low = omega arith })) (λ e. rw (e, finish) h)

  start-held : Held 0 (begun [])
  unfolding begun no_blocks
  start-held =
      record { few = omega arith; made = nil; ready = record { current = λ s g. absurd (none-ne-some _ g); order = omega arith } }

  pub walk_kept :
      (file : List ℕ) (n : ℕ) → All Block (blocks n (drop gsi_size file)) → Kept n (finish n (walk f (set_rule f) (with_subtitles f) [] file n))
  unfolding walk
  walk_kept file n k =
      let z : 0 + length (blocks n (drop gsi_size file)) ≡ n = omega (arith, blocks-length n (drop gsi_size file)) in
      finish-kept n _ (rw z at (steps-keep f (set_rule f) (with_subtitles f) Block Kept step_kept 0 (accepted (begun [])) (blocks n (drop gsi_size file)) k start-held))
