-- Members of a list, and of its image under a map.
use Rattle.std.proofs.Common.{◌≡◌, List, [], ◌∷◌, map, refl, ap, inl, inr}
use Rattle.span.specs.Kinds.{Member, SameEntries}

pub same_refl : {V : Type 0} (E : List V) → SameEntries E E
same_refl E v = (λ m. m, λ m. m)

-- the image of a member stands in the list of images
pub member_map : {V W : Type 0} (f : V → W) (E : List V) (v : V) → Member v E → Member (f v) (map f E)
member_map f [] v m = m
member_map f (e ∷ E) v (inl p) = inl (ap f p)
member_map f (e ∷ E) v (inr m) = inr (member_map f E v m)

-- and each that stands there is the image of a member
pub map_member : {V W : Type 0} (f : V → W) (E : List V) (w : W) → Member w (map f E) → (v : V) × Member v E × (w ≡ f v)
map_member f [] w m = absurd m
map_member f (e ∷ E) w (inl p) = (e, inl refl, p)
map_member {V} f (e ∷ E) w (inr m) = let r : (v : V) × Member v E × (w ≡ f v) = map_member f E w m in (r.0, inr r.1, r.2)
