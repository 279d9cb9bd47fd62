-- The members that are read of a document of several items (RFC 7946 §3.3) and of a collection's document, and their words.
use Rattle.std.specs.Prelude.{ℕ, List, codes}

unfoldable pub features_name : List ℕ
features_name = codes "features"

-- the `type` of a document of several items
unfoldable pub several_word : List ℕ
several_word = codes "FeatureCollection"

unfoldable pub cut_name : List ℕ
cut_name = codes "catalogue:cut"

unfoldable pub whole_word : List ℕ
whole_word = codes "whole"

unfoldable pub year_word : List ℕ
year_word = codes "year"

unfoldable pub month_word : List ℕ
month_word = codes "month"
