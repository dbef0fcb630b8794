use Rattle.std.proofs.Common.{◌≡◌, ◌∙◌, fold, arith, rules}
use Rattle.table.proofs.Bytes.{with_byte, read_is}
use Rattle.table.proofs.cells.word.Goals as goal

pub returns : goal.returns
returns c =
    let read : c.fold.result ≡ fold with_byte 0 c.args.cell.now = search rules in
    read ∙ read_is c.args.cell.now (λ i. omega (arith, c.type_inv.cell i)) c.requires
