use mathlib.Core.Path.{◌≡◌, ap, sym}
use mathlib.Core.List.{flat_map}
use native.Mathlib.Omega.{arith}
use Rattle.meaning.specs.Document.{write_style}
use Rattle.meaning.specs.Looks.{look_count}
use Rattle.output.proofs.Laws.{put_as, put_nothing, put-more}
use Rattle.styles.specs.Styles.{marked_below}
use Rattle.styles.proofs.Laws.{below-none, below-marked, below-clear, below-all}
use Rattle.styles.proofs.put_styles.Goals as goal
use Rattle.styles.proofs.put_styles.Goals.{then-on, else-on}

pub loop-look-init : goal.loop-look-init
unfolding flat_map
loop-look-init c = put_as (ap (flat_map write_style) (below-none _)) (put_nothing _ (omega arith) (omega arith))

pub loop-look-preserved : goal.loop-look-preserved
loop-look-preserved c =
    let on = c.args.marks.now.on in
    let k = c.loop-look.look in
    elim c.if-on.branch [
      | then-on w ↦
          rw w.w-is
          (put_as (ap (flat_map write_style) (below-marked on k w.if-on.true))
          (put-more write_style (marked_below on k) k c.loop-look.invariant w.put_style.ensures))
      | else-on w ↦ rw w.w-is (put_as (ap (flat_map write_style) (below-clear on k w.if-on.false)) c.loop-look.invariant)
    ]

pub returns : goal.returns
returns c =
    let all : c.loop-look.look ≡ look_count = omega arith in
    put_as (ap (flat_map write_style) (sym (below-all _))) (rw all at c.loop-look.invariant)
