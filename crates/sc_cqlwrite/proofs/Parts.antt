-- The parts of a geometry, one list behind the other.
use Rattle.std.proofs.Common.{◌≡◌, ◌+◌, List, [], ◌∷◌, ◌++◌, length, map, codes, Bool, eqb, ◌&&◌, refl, sym, ap, ◌∙◌, append_assoc, append-nil, arith, length-append}
use Rattle.std.proofs.lemmas.Grind.{flat_map-append}
use Rattle.std.proofs.lemmas.List.{length-map}
use Rattle.std.proofs.lemmas.Bool.{ne_eqb}
use Rattle.sc_geom.specs.declared.point.Pt.{Pt}
use Rattle.sc_geom.specs.Shapes.{Shapes}
use Rattle.sc_cqlwrite.specs.Tokens as tokens
use Rattle.sc_cqlwrite.specs.Tokens.{Token, between, before_each, listed}
use Rattle.sc_cqlwrite.specs.Spelling.{Spelled, with_tokens, is_none, going_on}
use Rattle.sc_cqlwrite.specs.Geometries.{point_part, line_part, area_part, parts_of, collected, geometry_tokens}
use Rattle.sc_cqlwrite.proofs.Spellings.{tokens_append}

-- what comes behind parts is the first only where there are none
between_append : (t : Token) (ps qs : List (List Token)) → between t (ps ++ qs) ≡ between t ps ++ going_on (is_none ps) t qs
between_append t [] qs = refl
between_append t (p ∷ ps) qs =
    ap (λ (ts : List Token). p ++ ts) (flat_map-append (λ (part : List Token). t ∷ part) ps qs) ∙ sym (append_assoc p (before_each t ps) (before_each t qs))

pub none_length : {A : Type 0} (xs : List A) → eqb (length xs) 0 ≡ is_none xs
none_length [] = refl
none_length (x ∷ xs) = ne_eqb (length (x ∷ xs)) 0 (λ e. absurd (omega arith))

is_none_map : {A B : Type 0} (f : A → B) (xs : List A) → is_none (map f xs) ≡ is_none xs
is_none_map f [] = refl
is_none_map f (x ∷ xs) = refl

is_none_append : {A : Type 0} (xs ys : List A) → is_none (xs ++ ys) ≡ (is_none xs && is_none ys)
is_none_append [] ys = refl
is_none_append (x ∷ xs) ys = refl

pub parts_pushed : (g : Shapes Pt) (old first second new : Spelled) (no_point no_path : Bool)
    → no_point ≡ is_none g.points → no_path ≡ (is_none g.points && is_none g.lines)
    → first ≡ with_tokens old (between tokens.comma (map point_part g.points))
    → second ≡ with_tokens first (going_on no_point tokens.comma (map line_part g.lines))
    → new ≡ with_tokens second (going_on no_path tokens.comma (map area_part g.areas))
    → new ≡ with_tokens old (between tokens.comma (parts_of g))
parts_pushed g old first second new no_point no_path point_is path_is a b c =
    let points = map point_part g.points in let lines = map line_part g.lines in let areas = map area_part g.areas in
    let none : is_none points ≡ no_point = is_none_map point_part g.points ∙ sym point_is in
    let neither : is_none (points ++ lines) ≡ no_path =
    is_none_append points lines ∙ ap (λ (b : Bool). b && is_none lines) (is_none_map point_part g.points) ∙ ap (λ (b : Bool). is_none g.points && b) (is_none_map line_part g.lines) ∙ sym path_is in
    let whole : between tokens.comma (points ++ lines ++ areas) ≡ (between tokens.comma points ++ going_on no_point tokens.comma lines) ++ going_on no_path tokens.comma areas =
    between_append tokens.comma (points ++ lines) areas
    ∙ ap (λ (b : Bool). between tokens.comma (points ++ lines) ++ going_on b tokens.comma areas) neither
    ∙ ap (λ (ts : List Token). ts ++ going_on no_path tokens.comma areas) (between_append tokens.comma points lines ∙ ap (λ (b : Bool). between tokens.comma points ++ going_on b tokens.comma lines) none) in
    c ∙ ap (λ (s : Spelled). with_tokens s (going_on no_path tokens.comma areas)) (b ∙ ap (λ (s : Spelled). with_tokens s (going_on no_point tokens.comma lines)) a ∙ sym (tokens_append old (between tokens.comma points) (going_on no_point tokens.comma lines)))
    ∙ sym (tokens_append old (between tokens.comma points ++ going_on no_point tokens.comma lines) (going_on no_path tokens.comma areas))
    ∙ ap (λ (ts : List Token). with_tokens old ts) (sym whole)

-- ---- one part alone

one_alone : (parts : List (List Token)) → length parts ≡ 1 → between tokens.comma parts ≡ collected parts
one_alone [] is = absurd (omega arith)
one_alone (p ∷ []) is = append-nil p
one_alone (p ∷ q ∷ ps) is = absurd (omega arith)

not_alone : (parts : List (List Token)) → (length parts ≡ 1 → ⊥) → collected parts ≡ tokens.function (codes "GEOMETRYCOLLECTION") ∷ listed parts
not_alone [] is = refl
not_alone (p ∷ []) is = absurd (is refl)
not_alone (p ∷ q ∷ ps) is = refl

pub alone_geometry : (g : Shapes Pt) → length (parts_of g) ≡ 1 → between tokens.comma (parts_of g) ≡ geometry_tokens g
alone_geometry g is = one_alone (parts_of g) is

pub other_geometry : (g : Shapes Pt) → (length (parts_of g) ≡ 1 → ⊥) → geometry_tokens g ≡ tokens.function (codes "GEOMETRYCOLLECTION") ∷ listed (parts_of g)
other_geometry g is = not_alone (parts_of g) is

pub parts_length : (g : Shapes Pt) → length (parts_of g) ≡ length g.points + length g.lines + length g.areas
parts_length g =
    let points = map point_part g.points in let lines = map line_part g.lines in let areas = map area_part g.areas in
    omega (arith, length-append (points ++ lines) areas, length-append points lines, length-map g.points point_part, length-map g.lines line_part, length-map g.areas area_part)
