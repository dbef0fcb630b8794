use Rattle.std.proofs.Common.{◌≡◌, ◌-◌, ◌++◌, length, drop, sym, ap, subst, arith, length-append}
use Rattle.std.proofs.lemmas.List.{length-take-le}
use Rattle.table.specs.Images.{header}
use Rattle.table.proofs.Stores.{stored_is}
use Rattle.drafts.specs.Standing.{dims_of}
use Rattle.drafts.specs.Written.{ImageOf}
use Rattle.drafts.proofs.Tabling.{put_behind, image_of}
use Rattle.drafts.proofs.draft.Draft.write_image.Goals as goal

pub returns : goal.returns
returns g c =
    let d = c.args.self.now in
    let all = c.args.image.now in
    let head : c.put_header.new.bytes ≡ header (dims_of d) = stored_is _ _ _ _ c.put_header.ensures (length-take-le 8 all (omega (arith, c.requires.size))) in
    let long : length c.put_header.new.bytes ≡ 8 = ap length head in
    let whole = put_behind 8 (length (c.put_header.new.bytes ++ drop 8 all) - 8) c.put_header.new.bytes (drop 8 all) c.write_cells.new.cells long
    (omega (arith, length-append c.put_header.new.bytes (drop 8 all))) in
    subst (ImageOf g.K.Marked.view g.K.Marked.marks d) (sym whole)
    (image_of g.K.Marked.view g.K.Marked.marks d c.put_header.new.bytes c.write_cells.new.cells head c.write_cells.ensures)
