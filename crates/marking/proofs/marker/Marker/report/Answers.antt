use Rattle.std.proofs.Common.{ℕ, length, take, sym, ap, refl, subst, inl}
use Rattle.orders.specs.Printing.{parts_text}
use Rattle.shelf.specs.Reports.{asked}
use Rattle.text.proofs.Chains.{◌then◌, read_as}
use Rattle.marking.specs.Answers.{found_text, Reported}
use Rattle.marking.proofs.Looks.{tags_of_asked}
use Rattle.marking.proofs.marker.Marker.report.Goals as goal

pub returns-in-Ok : goal.returns-in-Ok
returns-in-Ok c =
    let marker = c.args.self.now in
    let line = c.args.line.now in
    let entries = c.look.new.sheet.entries in
    let ends : ℕ × ℕ = (c.in-Ok.left, c.in-Ok.right) in
    let by = c.in-Ok.ensures.found in
    let tags = tags_of_asked marker.shelf.places c.args.place (length line) marker.tags by.0 marker.tags_are by.1 in
    let marks = take (length line) c.look.new.marks in
    let text = found_text by.0 ends marks entries in
    let told : Reported (asked marker.shelf.places c.args.place (length line)) line text
    = subst (λ r. Reported r line text) (sym by.1) (inl (record { ends = ends; marks = marks; entries = entries; found = by.2; is = refl })) in
    (text, told, c.write_longest.ensures then c.write_marks.ensures then read_as (ap (λ n. parts_text n entries) tags) c.write_parts.ensures)
