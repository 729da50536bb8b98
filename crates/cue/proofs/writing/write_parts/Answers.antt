use Rattle.std.proofs.Common.{◌+◌, drop, Some, None, sym, refl}
use Rattle.std.proofs.lemmas.List.{at_drop_all}
use Rattle.text.proofs.Chains.{read_as, nothing}
use Rattle.cue.specs.Records.{parts_from, part_bytes}
use Rattle.cue.proofs.Scans.{at_entry}
use Rattle.cue.proofs.Writes.{moved, part_then}
use Rattle.cue.proofs.writing.write_parts.Goals as goal
use Rattle.cue.proofs.writing.write_parts.Goals.{in-Some, in_default}

pub loop-k-preserved : goal.loop-k-preserved
loop-k-preserved c u a =
    let i = c.loop-k.k in
    let es = c.args.entries.now in
    elim c.match-entry.branch [
      | in-Some w ↦
          let part = w.in-Some.part in
          let here = at_entry (λ l. part_bytes (parts_from (i + 1) l)) es i (Some part) c.loop-k-test.true w.in-Some.is in
          c.loop-k.invariant u (read_as (sym here) (part_then (i + 1) part (parts_from (i + 1 + 1) (drop (i + 1) es)) w.write_part.ensures (moved w.out-is refl a)))
      | in_default w ↦ c.loop-k.invariant u (moved w.out-is (at_entry (λ l. part_bytes (parts_from (i + 1) l)) es i None c.loop-k-test.true w.in_default.is) a)
    ]

pub returns : goal.returns
returns c =
    let i = c.loop-k.k in
    let none = at_drop_all (λ l. part_bytes (parts_from (i + 1) l)) c.args.entries.now i c.loop-k-test.false in
    c.loop-k.invariant _ (read_as (sym none) (nothing c.loop-k.out))
