-- `put_utf8` writes one, two or three bytes, by size.
-- Assumes nothing.
use native.Mathlib.Omega.{arith}
use borrow.Author.Tests.{lt-ltb, le-ltb}
use Rattle.meaning.specs.Document.{utf8}
use Rattle.output.proofs.Laws.{◌▸◌, put_as}
use Rattle.xml.proofs.put_utf8.Goals as goal

pub returns-then-c-lt128 : goal.returns-then-c-lt128
unfolding utf8
returns-then-c-lt128 c = rw (lt-ltb _ 128 c.if-c-lt128.true) c.put_byte.ensures

pub returns-then-c-lt2048 : goal.returns-then-c-lt2048
unfolding utf8
returns-then-c-lt2048 c =
    rw (le-ltb _ 128 c.if-c-lt128.false, lt-ltb _ 2048 c.if-c-lt2048.true) (put_as (cc) (c.put_byte-then-c-lt2048.ensures ▸ c.put_byte-then-c-lt2048-2.ensures))

pub returns-else-c-lt2048 : goal.returns-else-c-lt2048
unfolding utf8
returns-else-c-lt2048 c =
    let n = c.args.c in
    rw (le-ltb n 128 c.if-c-lt128.false, le-ltb n 2048 c.if-c-lt2048.false, lt-ltb n 65536 (omega arith))
    (put_as (cc) (c.put_byte-else-c-lt2048.ensures ▸ c.put_byte-else-c-lt2048-2.ensures ▸ c.put_byte-else-c-lt2048-3.ensures))
