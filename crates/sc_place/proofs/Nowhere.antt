-- Where a path leads to no endpoint, its target leads nowhere.
use Rattle.std.proofs.Common.{◌≡◌, ℕ, List, sym, ◌∙◌, ap, subst}
use Rattle.std.specs.Prelude.{Option, None}
use Rattle.sc_place.specs.Segments.{path_of, segments}
use Rattle.sc_place.specs.Endpoints.{IsEndpoint, EndpointOf}
use Rattle.sc_place.specs.Resources.{HasSegments, LeadsTo}
use Rattle.sc_place.specs.declared.endpoint.Endpoint.{Endpoint}
use Rattle.sc_place.specs.declared.endpoint.Endpoint.TheVariants as endpoint
use Rattle.sc_place.specs.declared.resource.Resource.{Resource}
use Rattle.sc_place.specs.declared.resource.Resource.TheVariants.{Landing, Conformance, Queryables, Search, Collections, Collection, Items, Item}

-- the segments of no endpoint are those of no resource
no_endpoint : (segs : List (List ℕ)) → ((e : Endpoint) → IsEndpoint e segs → ⊥) → (r : Resource) → HasSegments r segs → ⊥
no_endpoint segs none Landing has = none endpoint.Landing has
no_endpoint segs none Conformance has = none endpoint.Conformance has
no_endpoint segs none Queryables has = none endpoint.Queryables has
no_endpoint segs none Search has = none endpoint.Search has
no_endpoint segs none Collections has = none endpoint.Collections has
no_endpoint segs none (Collection id) has = none endpoint.Collection (has.0, has.1, has.2.0)
no_endpoint segs none (Items collection) has = none endpoint.Items (has.0, has.1, has.2.0)
no_endpoint segs none (Item collection id) has = none endpoint.Item (has.0, has.1, has.2, has.3.0, has.4.0)

pub nowhere : (target text path : List ℕ) → text ≡ target → path ≡ path_of text → EndpointOf None (segments path) → (r : Resource) → LeadsTo target r → ⊥
nowhere target text path same is none r leads =
    no_endpoint (segments path) none r (subst (λ p. HasSegments r (segments p)) (ap path_of (sym same) ∙ sym is) leads.1)
