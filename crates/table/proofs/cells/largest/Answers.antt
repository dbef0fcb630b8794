use Rattle.std.proofs.Common.{◌≡◌, ◌-◌, ◌/◌, ◌^◌, ◌∙◌, ap, arith}
use Rattle.std.proofs.lemmas.Nat.{pow_pos}
use Rattle.std.proofs.lemmas.Nat.Bits.{ones_shr}
use Rattle.table.proofs.cells.largest.Goals as goal

pub returns : goal.returns
returns c =
    let bits = c.args.bits in
    let all : (2 ^ 64 - 1) / 2 ^ (64 - bits) ≡ 2 ^ bits - 1 = ones_shr 64 (64 - bits) (omega arith) ∙ ap (λ n. 2 ^ n - 1) (omega arith) in
    omega (arith, all, pow_pos bits)
