-- What is known ahead of a place in a text.
use Rattle.std.specs.Prelude.{◌≡◌, ℕ, ◌<◌, true, false, List, ◌++◌, map, length, drop, chars}
use Rattle.sc_eval.specs.declared.like.Element.{Element}
use Rattle.sc_eval.specs.declared.like.Element.TheVariants.{Same}
use Rattle.sc_eval.specs.declared.like.Ahead.{Ahead}
use Rattle.sc_eval.specs.declared.like.Ahead.TheVariants as found
use Rattle.sc_eval.specs.Like.{elements, fits}

-- where the elements fit a text further on, the others fit the other text as far on
abbrev pub Leads : List Element → List ℕ → List Element → List ℕ → Type 0
Leads es cs fs ds = (m : ℕ) → fits es (drop m cs) ≡ true → fits fs (drop m ds) ≡ true

-- the elements don't fit what is left of a text, whatever is taken from its front
abbrev pub FitsNowhere : List Element → List ℕ → Type 0
FitsNowhere es cs = (m : ℕ) → fits es (drop m cs) ≡ false

-- the elements don't fit what is left of a text where fewer characters are taken from its front
abbrev pub FitsNowhereBefore : ℕ → List Element → List ℕ → Type 0
FitsNowhereBefore n es cs = (m : ℕ) → m < n → fits es (drop m cs) ≡ false

-- a pattern begins with these characters
abbrev pub IsHead : List ℕ → List ℕ → Type 0
IsHead head pattern = (es : List Element) × (elements (chars pattern) ≡ map Same (chars head) ++ es)

-- the part that doesn't fit fits wherever the pattern does; a text that is too short has no place for the pattern; what is
-- left behind a run is shorter than the pattern
abbrev pub IsAhead : List ℕ → List ℕ → Ahead → Type 0
IsAhead pattern text (found.Never part place) = Leads (elements (chars pattern)) (chars text) (elements (chars part.now)) (chars place.now)
IsAhead pattern text found.Short = FitsNowhere (elements (chars pattern)) (chars text)
IsAhead pattern text (found.End rest) = Unit {0}
IsAhead pattern text (found.Run more rest) = length more.now < length pattern
