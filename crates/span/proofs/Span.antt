-- Combinations carried along a map that keeps sums, and lists with the same combinations.
use Rattle.std.proofs.Common.{◌≡◌, List, [], ◌∷◌, map, sym, refl, ap, ◌∙◌, subst, inl, inr}
use Rattle.span.specs.Kinds.{Kind, Comb, SameSpan, Member, SameEntries}
use Rattle.span.proofs.Comb.{cancel, comb_member, comb_trans}

module _ {V W : Type 0} (K : Kind V) (L : Kind W) (g : V → W)
    (g-none : g K.none ≡ L.none) (g-sum : (x y : V) → g (K.sum x y) ≡ L.sum (g x) (g y)) where
  -- the image of a combination is a combination of the images
  pub comb_map : (H : List V) (v : V) → Comb K H v → Comb L (map g H) (g v)
  comb_map [] v p = ap g p ∙ g-none
  comb_map (e ∷ H) v (inl p) = inl (comb_map H v p)
  comb_map (e ∷ H) v (inr p) = inr (subst (Comb L (map g H)) (g-sum e v) (comb_map H (K.sum e v) p))

  -- each combination of the images is the image of one
  pub comb_lift : (H : List V) (w : W) → Comb L (map g H) w → (v : V) × Comb K H v × (g v ≡ w)
  comb_lift [] w p = (K.none, refl, g-none ∙ sym p)
  comb_lift (e ∷ H) w (inl p) = let r : (v : V) × Comb K H v × (g v ≡ w) = comb_lift H w p in (r.0, inl r.1, r.2)
  comb_lift (e ∷ H) w (inr p) =
      let r : (v : V) × Comb K H v × (g v ≡ L.sum (g e) w) = comb_lift H (L.sum (g e) w) p in
      (K.sum e r.0, inr (subst (Comb K H) (sym (cancel K e r.0)) r.1), g-sum e r.0 ∙ ap (L.sum (g e)) r.2 ∙ cancel L (g e) w)

  -- lists with the same combinations have images with the same combinations
  pub span_map : (G H : List V) → SameSpan K G H → SameSpan L (map g G) (map g H)
  span_map G H s w = (go G H (λ v. (s v).0), go H G (λ v. (s v).1))
    where
      go : (G H : List V) → ((v : V) → Comb K G v → Comb K H v) → Comb L (map g G) w → Comb L (map g H) w
      go G H t p =
          let r : (v : V) × Comb K G v × (g v ≡ w) = comb_lift G w p in
          subst (Comb L (map g H)) r.2 (comb_map H r.0 (t r.0 r.1))

-- lists with the same entries, in any order and however often, have the same combinations
pub span_entries : {V : Type 0} (K : Kind V) (G H : List V) → SameEntries G H → SameSpan K G H
span_entries K G H s v =
    (comb_trans K G H (λ e m. comb_member K H e ((s e).0 m)) v, comb_trans K H G (λ e m. comb_member K G e ((s e).1 m)) v)

-- same combinations, turned round
pub span_sym : {V : Type 0} (K : Kind V) (G H : List V) → SameSpan K G H → SameSpan K H G
span_sym K G H s v = ((s v).1, (s v).0)

-- and from list to list
pub span_trans : {V : Type 0} (K : Kind V) (F G H : List V) → SameSpan K F G → SameSpan K G H → SameSpan K F H
span_trans K F G H s t v = (λ p. (t v).0 ((s v).0 p), λ p. (s v).1 ((t v).1 p))

-- one entry more on both sides
pub span_cons : {V : Type 0} (K : Kind V) (e : V) (G H : List V) → SameSpan K G H → SameSpan K (e ∷ G) (e ∷ H)
span_cons {V} K e G H s v = (go G H (λ x. (s x).0), go H G (λ x. (s x).1))
  where
    go : (G H : List V) → ((x : V) → Comb K G x → Comb K H x) → Comb K (e ∷ G) v → Comb K (e ∷ H) v
    go G H t (inl p) = inl (t v p)
    go G H t (inr p) = inr (t (K.sum e v) p)

-- an entry that is a combination already adds none
pub span_absorb : {V : Type 0} (K : Kind V) (e : V) (H : List V) → Comb K H e → SameSpan K (e ∷ H) H
span_absorb {V} K e H c v = (comb_trans K (e ∷ H) H go v, inl)
  where
    go : (x : V) → Member x (e ∷ H) → Comb K H x
    go x (inl q) = subst (Comb K H) (sym q) c
    go x (inr m) = comb_member K H x m
