-- Defines what is drawn: which words follow from a seed, and the number that a word gives.
use Rattle.std.specs.Prelude.{ℕ, ◌*◌, ◌/◌, ◌%◌, ◌^◌}
use Rattle.rand_core.specs.Pcg32Seed.{pcg32_seed}
use Rattle.rand_pcg.specs.Lcg.{Lcg}
use Rattle.rand_pcg.specs.Pcg.{pcg32, pcg32_of_seed}

-- the words that follow from a seed
abbrev pub words_of : ℕ → Lcg
words_of seed = pcg32_of_seed (pcg32_seed 16 seed)

-- the next word, and those behind it
abbrev pub word : Lcg → ℕ × Lcg
word source = pcg32 source

-- the next word's share of m, rounded down, and the words behind it; the product is one of 64 bits
abbrev pub draw : ℕ → Lcg → ℕ × Lcg
draw m source = ((pcg32 source).0 * m % 2 ^ 64 / 2 ^ 32, (pcg32 source).1)
