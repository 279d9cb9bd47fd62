-- What replies say: their statuses (RFC 9110, section 15), and their bodies, which are JSON (RFC 8259).
use Rattle.std.specs.Prelude.{ℕ, Bool, true, false, List, [], ◌∷◌, ◌++◌, codes, decimal, if◌then◌else◌, Option, None}
use Rattle.sc_json.specs.Compact.{quoted}
use Rattle.sc_http.specs.declared.reply.Reply.{Reply}

-- what a reply says, but for the revision and whether the connection ends after it: its status, whether its body is GeoJSON, the methods that are allowed where
-- another one was asked for, and its body
pub record Saying : Type 0 where
  pub status : ℕ
  pub geo : Bool
  pub allow : Option (List ℕ)
  pub body : List ℕ

-- the reply that says so at a revision, and whether the connection ends after it
abbrev pub reply_of : Saying → ℕ → Bool → Reply
reply_of said revision close = record { status = said.status; geo = said.geo; revision = revision; close = close; allow = said.allow; body = said.body }

abbrev pub told : ℕ → Bool → List ℕ → Saying
told status geo body = record { status = status; geo = geo; allow = None; body = body }

-- a JSON document, and a GeoJSON document
abbrev pub json : List ℕ → Saying
json body = told 200 false body

abbrev pub geojson : List ℕ → Saying
geojson body = told 200 true body

-- ---- refusals

unfoldable pub code_start : List ℕ
code_start = codes "{\"code\":"

unfoldable pub description_start : List ℕ
description_start = codes ",\"description\":"

-- the JSON object of a refusal's name and of what it is about
abbrev pub refusal_text : List ℕ → List ℕ → List ℕ
refusal_text name about = code_start ++ quoted name ++ description_start ++ quoted about ++ 125 ∷ []

abbrev pub refused : ℕ → List ℕ → List ℕ → Saying
refused status name about = told status false (refusal_text name about)

unfoldable pub behind_name : List ℕ
behind_name = codes "Behind"

unfoldable pub no_collection_name : List ℕ
no_collection_name = codes "NoCollection"

unfoldable pub no_item_name : List ℕ
no_item_name = codes "NoItem"

-- the stated revision isn't reached
abbrev pub behind : ℕ → Saying
behind revision = refused 409 behind_name (decimal revision)

-- there is no such collection, or no such item, to be told of
abbrev pub no_collection : List ℕ → Saying
no_collection id = refused 404 no_collection_name id

abbrev pub no_item : List ℕ → Saying
no_item id = refused 404 no_item_name id

-- ---- loads that are accepted

unfoldable pub revision_start : List ℕ
revision_start = codes "{\"revision\":"

unfoldable pub items_start : List ℕ
items_start = codes ",\"items\":"

-- the JSON object of the revision that the load made, and of the number of items
abbrev pub load_text : ℕ → ℕ → List ℕ
load_text revision items = revision_start ++ decimal revision ++ items_start ++ decimal items ++ 125 ∷ []

abbrev pub accepted_status : Bool → ℕ
accepted_status made = if made then 201 else 200

abbrev pub accepted_of : Bool → ℕ → ℕ → Saying
accepted_of made revision items = told (accepted_status made) false (load_text revision items)

unfoldable pub not_stored_start : List ℕ
not_stored_start = codes "{\"code\":\"NotStored\",\"description\":\""

-- the JSON object of a refusal by the name of `NotStored`, which is about the number of the loads that are stored
abbrev pub not_stored_text : ℕ → List ℕ
not_stored_text stored = not_stored_start ++ decimal stored ++ 34 ∷ 125 ∷ []

-- the history has the load, and only so many of its loads are stored
abbrev pub not_stored : ℕ → Saying
not_stored stored = told 500 false (not_stored_text stored)
