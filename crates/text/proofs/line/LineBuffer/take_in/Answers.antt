use Rattle.std.proofs.Common.{sym}
use Rattle.text.proofs.Cuts.{cuts}
use Rattle.text.proofs.Fronts.{at_feed, no_feed}
use Rattle.text.proofs.line.LineBuffer.take_in.Goals as goal

pub returns-in-Some : goal.returns-in-Some
returns-in-Some g c =
    let f = at_feed c.args.chunk.now c.in-Some.n c.in-Some.ensures in
    record {
      kept = let e = f.0 in cc;
      count = sym f.2;
      ended = sym f.1;
      cuts = cuts g.row.MOST;
    }

pub returns-in-None : goal.returns-in-None
returns-in-None g c =
    let f = no_feed c.args.chunk.now c.in-None.ensures in
    record {
      kept = let e = f.0 in cc;
      count = f.2;
      ended = sym f.1;
      cuts = cuts g.row.MOST;
    }
