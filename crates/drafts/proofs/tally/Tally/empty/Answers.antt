use Rattle.std.proofs.Common.{ap, ◌∙◌}
use Rattle.std.proofs.lemmas.Simd.{length-replicate, get_or-replicate}
use Rattle.gf2.specs.Masks.{mask}
use Rattle.drafts.specs.declared.tally.Noted.{Noted}
use Rattle.drafts.proofs.tally.Tally.empty.Goals as goal

pub returns : goal.returns
returns c =
    let none : Noted = record { slots = 0; bound = c.empty.result } in
    record {
      all = length-replicate 64 none;
      none = λ b h. let own = get_or-replicate 64 b none _ h in (ap (λ t. t.slots) own, ap (λ t. mask t.bound) own ∙ c.empty.ensures);
    }
