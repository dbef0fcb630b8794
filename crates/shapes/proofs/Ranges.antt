-- No number is outside its limits exactly where all are within them.
use Rattle.std.proofs.Common.{◌≡◌, ℕ, ◌+◌, ◌≤◌, Bool, true, false, cond, ◌||◌, Option, Some, None, ltb, refl, ◌∙◌, rules}
use Rattle.std.proofs.lemmas.Bool.{ltb-false, le-ltb, or_parts, or_from, cond-false}
use Rattle.shapes.specs.Limits.{InLimits, outside}
use Rattle.shapes.specs.declared.shape.Dims.{Dims}

-- a test that finds nothing fails
passes : {T : Type 0} (b : Bool) (found : T) (next : Option T) → cond b (Some found) next ≡ None → (b ≡ false) × (next ≡ None)
passes true found next e = absurd (search rules)
passes false found next e = (refl, e)

-- x is from a to b
between : (x a b : ℕ) → (ltb x a || ltb b x) ≡ false → (a ≤ x) × (x ≤ b)
between x a b e = let p = or_parts (ltb x a) (ltb b x) e in (ltb-false x a p.0, ltb-false b x p.1)

not_outside : (x a b : ℕ) → a ≤ x → x ≤ b → (ltb x a || ltb b x) ≡ false
not_outside x a b low high = or_from (ltb x a) (ltb b x) (le-ltb x a low) (le-ltb b x high)

pub limits_from_outside : (d : Dims) → outside d ≡ None → InLimits d
limits_from_outside d e =
    let n = passes _ _ _ e in
    let k = passes _ _ _ n.1 in
    let s = passes _ _ _ k.1 in
    let r = passes _ _ _ s.1 in
    let b = passes _ _ _ r.1 in
    let bits = or_parts (ltb 32 d.r) (ltb (d.s + d.r) 1) r.0 in
    record {
      n_low = (between d.n 1 256 n.0).0;
      n_high = (between d.n 1 256 n.0).1;
      k_low = (between d.k 1 8 k.0).0;
      k_high = (between d.k 1 8 k.0).1;
      s_high = ltb-false 32 d.s s.0;
      r_high = ltb-false 32 d.r bits.0;
      bits = ltb-false (d.s + d.r) 1 bits.1;
      b_low = (between d.b 1 64 b.0).0;
      b_high = (between d.b 1 64 b.0).1;
    }

pub outside_from_limits : (d : Dims) → InLimits d → outside d ≡ None
outside_from_limits d l =
    cond-false _ _ _ (not_outside d.n 1 256 l.n_low l.n_high)
    ∙ (cond-false _ _ _ (not_outside d.k 1 8 l.k_low l.k_high)
    ∙ (cond-false _ _ _ (le-ltb 32 d.s l.s_high)
    ∙ (cond-false _ _ _ (or_from (ltb 32 d.r) (ltb (d.s + d.r) 1) (le-ltb 32 d.r l.r_high) (le-ltb (d.s + d.r) 1 l.bits))
    ∙ cond-false _ _ _ (not_outside d.b 1 64 l.b_low l.b_high))))
