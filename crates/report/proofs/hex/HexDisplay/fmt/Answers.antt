use Rattle.std.proofs.Common.{ℕ, List, ◌++◌, sym, ap, ◌∙◌, rules, append_assoc}
use Rattle.std.proofs.Output.{has_written_append, has_written_of_eq}
use Rattle.std.proofs.lemmas.List.Concat.{flat_map-append}
use Rattle.std.proofs.lemmas.Str.{IsUtf8-from_ascii}
use Rattle.std.specs.Slice.Iter.{chunks_rest}
use Rattle.report.specs.Texts.{two_digits, hex}
use Rattle.report.proofs.hex.HexDisplay.fmt.Goals as goal

pub unreachable-requires : goal.unreachable-requires
unreachable-requires g c = c.in_default.ensures.cases.0 (rw c.put.ensures.is (IsUtf8-from_ascii _ c.put.ensures.ascii))

pub loop-part-preserved : goal.loop-part-preserved
loop-part-preserved g c =
    let part = c.in-Some.part.now in
    let rest = chunks_rest c.next.new.self in
    let steps = c.in-Some.ensures.steps in (
      search rules,
      tt,
      steps.0 ∙ c.loop-part.invariant.2,
      λ plain.
          let so_far = c.loop-part.invariant.3 plain in (
            so_far.0 ++ hex part,
            has_written_append _ _ _ _ _ _ so_far.1 (has_written_of_eq _ _ _ _ _ (c.in-Ok.ensures.cases.0 ∙ c.put.ensures.is) (search rules)),
            append_assoc so_far.0 (hex part) (hex rest)
                ∙ ap (λ (t : List ℕ). so_far.0 ++ t) (sym (flat_map-append two_digits part rest) ∙ ap hex (sym steps.1.0))
                ∙ so_far.2,
          ),
    )
