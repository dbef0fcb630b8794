use Rattle.std.proofs.Common.{ℕ, List, ◌++◌, codes, sym, ap, ◌∙◌, rules}
use Rattle.std.proofs.Output.{has_written_append, has_written_of_eq, has_written_to_eq}
use Rattle.std.proofs.lemmas.List.{flat_map_more}
use Rattle.gf2.specs.Masks.{mask}
use Rattle.report.specs.Texts.{members, after_space, spaced}
use Rattle.report.proofs.Members.{member_more, member_same}
use Rattle.report.proofs.detail.SlotsDisplay.fmt.Goals as goal
use Rattle.report.proofs.detail.SlotsDisplay.fmt.Goals.{then-contains+in_ok-write, else-contains}

pub loop-slot-init : goal.loop-slot-init
unfolding members
loop-slot-init g c = search rules

pub loop-slot-preserved : goal.loop-slot-preserved
loop-slot-preserved g c plain =
    let m = mask c.args.self.now.0 in
    let n = c.loop-slot.slot-counter in
    let text : List ℕ → List ℕ = λ ns. codes ", slots" ++ spaced ns in
    let so_far = c.loop-slot.invariant plain in
    elim c.if-contains.branch [
      | then-contains+in_ok-write w ↦
          has_written_of_eq _ _ _ _ _ (flat_map_more after_space (codes ", slots") (members m n) n ∙ sym (ap text (member_more m n (sym w.if-contains.ensures))))
          (has_written_append _ _ _ _ (after_space n) _ so_far (search rules))
      | else-contains w ↦
          has_written_to_eq _ _ _ _ _ w.f-is (has_written_of_eq _ _ _ _ _ (sym (ap text (member_same m n (sym w.if-contains.ensures)))) so_far)
    ]
