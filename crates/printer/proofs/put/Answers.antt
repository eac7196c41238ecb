-- `printer::put` meets its contract: the bytes behind those that are left are put.
use Rattle.std.proofs.Common.{refl}
use Rattle.printer.proofs.Ends.{back_none, back_more, back_all}
use borrow.Author.Rules.{rules}
use Rattle.printer.proofs.put.Goals as goal

pub loop-byte-init : goal.loop-byte-init
loop-byte-init c = record {
  next = tt;
  finite = tt;
  long = refl;
  so_far = back_none c.args.out.now c.args.at c.args.bytes.now _ c.args.out.now c.args.at cc;
}

pub loop-byte-preserved : goal.loop-byte-preserved
loop-byte-preserved c =
    let l = c.loop-byte in
    let k = c.put_byte-pos in
    record {
      next = tt;
      finite = tt;
      long = search rules;
      so_far = back_more c.args.out.now c.args.at c.args.bytes.now _ l.out l.pos _ c.in-Some.byte.now k.new.out k.result c.in-Some.ensures.steps l.invariant.so_far k.ensures;
    }

pub returns : goal.returns
returns c =
    let l = c.loop-byte in
    back_all c.args.out.now c.args.at c.args.bytes.now _ l.out l.pos c.in-None.ensures.steps.0 l.invariant.so_far
