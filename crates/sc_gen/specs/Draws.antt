-- The numbers of generated items: words of a PCG32 (O'Neill, "PCG: a family of simple fast space-efficient statistically good algorithms
-- for random number generation"), and what each stands for.
use Rattle.std.specs.Prelude.{ℕ, ◌+◌, ◌*◌, ◌%◌, ℤ, pos, ◌-ℤ◌}
use Rattle.rand_pcg.specs.Lcg.{Lcg, started, advance, increment_of}
use Rattle.rand_pcg.specs.Pcg.{multiplier_64, pcg32}
use Rattle.sc_gen.specs.declared.draw.Draw.{Draw}

-- the generator of a load: it starts from the seed as its state, and the load's number is its stream
abbrev pub generator_of : ℕ → ℕ → Lcg
generator_of seed load = started 64 multiplier_64 seed (increment_of 64 load)

-- a generator behind its first so many words
abbrev pub behind : ℕ → Lcg → Lcg
behind words generator = advance 64 multiplier_64 words generator

-- the word behind so many
abbrev pub word : ℕ → Lcg → ℕ
word place generator = (pcg32 (behind place generator)).0

-- the next four words
abbrev pub draw_of : Lcg → Draw
draw_of generator = record {
  moment = word 0 generator;
  longitude = word 1 generator;
  latitude = word 2 generator;
  cover = word 3 generator;
}

-- the words of the item of a number, which counts from 0: each item before it has taken four
abbrev pub draw_at : ℕ → ℕ → ℕ → Draw
draw_at seed load number = draw_of (behind (4 * number) (generator_of seed load))

-- ---- what the words stand for

-- 2023-01-01T00:00:00Z and so many seconds of 730 days, in nanoseconds from 1970-01-01T00:00:00Z
abbrev pub moment_of : ℕ → ℤ
moment_of word = pos ((1_672_531_200 + word % 63_072_000) * 1_000_000_000)

-- steps of the grid of 10 ^ -7 degree: from 180 degrees west to 180 degrees east, from 85 degrees south to 85 degrees north
abbrev pub longitude_of : ℕ → ℤ
longitude_of word = pos (word % 3_600_000_001) -ℤ pos 1_800_000_000

abbrev pub latitude_of : ℕ → ℤ
latitude_of word = pos (word % 1_700_000_001) -ℤ pos 850_000_000

-- hundredths of a percent, from 0 to 100 percent
abbrev pub hundredths_of : ℕ → ℕ
hundredths_of word = word % 10_001
