-- The document of a generated item: a GeoJSON Feature (RFC 7946 §3.2) with a point.
use Rattle.std.specs.Prelude.{ℕ, ◌+◌, ◌/◌, ◌%◌, List, [], ◌∷◌, ◌++◌, codes, decimal}
use Rattle.sc_degrees.specs.Degrees.{degrees_text}
use Rattle.sc_gen.specs.declared.draw.Draw.{Draw}
use Rattle.sc_gen.specs.Draws.{longitude_of, latitude_of, hundredths_of}

unfoldable pub collection_part : List ℕ
collection_part = codes "{\"type\":\"Feature\",\"collection\":\""

unfoldable pub id_part : List ℕ
id_part = codes "\",\"id\":\""

unfoldable pub geometry_part : List ℕ
geometry_part = codes "\",\"geometry\":{\"type\":\"Point\",\"coordinates\":["

unfoldable pub properties_part : List ℕ
properties_part = codes "]},\"properties\":{\"datetime\":\""

unfoldable pub cover_part : List ℕ
cover_part = codes "\",\"eo:cloud_cover\":"

unfoldable pub end_part : List ℕ
end_part = codes "}}"

-- the collection of a load: `g0` to `g3` in turn
abbrev pub collection_of : ℕ → List ℕ
collection_of load = 103 ∷ decimal (load % 4)

-- an item's id: the numbers of its load and of its place in the load, with a hyphen
abbrev pub id_of : ℕ → ℕ → List ℕ
id_of load number = decimal load ++ 45 ∷ decimal number

-- hundredths as a number with two decimals
abbrev pub decimals_text : ℕ → List ℕ
decimals_text hundredths = decimal (hundredths / 100) ++ 46 ∷ (48 + hundredths / 10 % 10) ∷ (48 + hundredths % 10) ∷ []

-- the names of an item, its point, and its time and cover
abbrev pub names_text : List ℕ → ℕ → ℕ → List ℕ
names_text collection load number = collection_part ++ collection ++ id_part ++ id_of load number

abbrev pub point_text : Draw → List ℕ
point_text draw = geometry_part ++ degrees_text (longitude_of draw.longitude) ++ 44 ∷ degrees_text (latitude_of draw.latitude)

abbrev pub properties_text : Draw → List ℕ → List ℕ
properties_text draw moment = properties_part ++ moment ++ cover_part ++ decimals_text (hundredths_of draw.cover) ++ end_part

-- the document of an item of a load, with the text of its moment
unfoldable pub document_text : List ℕ → ℕ → ℕ → Draw → List ℕ → List ℕ
document_text collection load number draw moment = names_text collection load number ++ point_text draw ++ properties_text draw moment
