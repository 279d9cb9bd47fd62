-- A place that fits a sort has a value for each of its keys.
use Rattle.std.proofs.Common.{◌≡◌, suc, List, [], ◌∷◌, length, refl, ap}
use Rattle.sc_sort.specs.declared.key.Key.{Key}
use Rattle.sc_sort.specs.declared.value.SortValue.{SortValue}
use Rattle.sc_token.specs.Fits.{FitKeys}

pub fit_count : (sort : List Key) (values : List SortValue) → FitKeys sort values → length values ≡ length sort
fit_count [] [] h = refl
fit_count [] (value ∷ values) h = absurd h
fit_count (key ∷ sort) [] h = absurd h
fit_count (key ∷ sort) (value ∷ values) h = ap suc (fit_count sort values h.1)
