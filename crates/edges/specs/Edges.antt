-- Numbers on each side of an edge (docs/RULES.md, 5): those of packing, encoding, decoding, sampling and the margin's verdict, as one table. Every number marked *
-- there is here, and the unmarked ones beside them.
-- Assumes nothing.
use Rattle.std.specs.Prelude.{Bool, true, false, ◌&&◌, List, [], ◌∷◌, ◌++◌, ℕ, eqb, replicate}
use Rattle.std.specs.Bool.{beq}
use Rattle.sets.specs.Sets.{frodo640, frodo976, frodo1344}
use Rattle.sets.specs.declared.Params.{Params}
use Rattle.codec.specs.Pack.{packed}
use Rattle.message.specs.Message.{half, group_of, encoded}
use Rattle.noise.specs.Noise.{sampled, table_of}
use Rattle.scheme.specs.Parts.{stored}
use Rattle.scheme.specs.Margin.{largest_size, kept_by}

-- what is asked of a set, and the answer
pub data Case : Type 0 where
  pack : Params → List ℕ → List ℕ → Case
  encode : Params → List ℕ → List ℕ → Case
  decode : Params → ℕ → ℕ → Case
  sample : Params → ℕ → ℕ → Case
  judge : Params → List ℕ → ℕ → Bool → Case

-- two lists agree
unfoldable pub same : List ℕ → List ℕ → Bool
same [] [] = true
same [] (y ∷ ys) = false
same (x ∷ xs) [] = false
same (x ∷ xs) (y ∷ ys) = eqb x y && same xs ys

-- the definitions give the answer
unfoldable pub holds : Case → Bool
holds (pack p ws bs) = same (packed p.d ws) bs
holds (encode p msg ws) = same (encoded p.q p.b msg) ws
holds (decode p x m) = eqb (group_of p.q p.b x) m
holds (sample p r x) = eqb (stored (sampled (table_of p.chi) r)) x
holds (judge p ws size kept) = eqb (largest_size p.q ws) size && beq (kept_by p.q (half p.q p.b) ws) kept

-- every case holds
unfoldable pub all : List Case → Bool
all [] = true
all (c ∷ cs) = holds c && all cs

-- 64 words of noise, the last of which is this one and the others 0
abbrev pub worst : ℕ → List ℕ
worst x = replicate 63 0 ++ (x ∷ [])

-- the rules' numbers, in their order
unfoldable pub cases : List Case
cases =
    pack frodo640 (1 ∷ replicate 7 0) (0x00 ∷ 0x02 ∷ replicate 13 0x00)
    ∷ pack frodo640 (0 ∷ 0 ∷ 0 ∷ 0 ∷ 0 ∷ 0 ∷ 0 ∷ 1 ∷ []) (0 ∷ 0 ∷ 0 ∷ 0 ∷ 0 ∷ 0 ∷ 0 ∷ 0 ∷ 0 ∷ 0 ∷ 0 ∷ 0 ∷ 0 ∷ 0 ∷ 1 ∷ [])
    ∷ pack frodo640 (replicate 8 0x7FFF) (replicate 15 0xFF)
    ∷ pack frodo640 (replicate 8 0x8000) (replicate 15 0x00)
    ∷ pack frodo976 (0x1234 ∷ []) (0x12 ∷ 0x34 ∷ [])
    ∷ encode frodo640 (0x1B ∷ 0x00 ∷ []) (24576 ∷ 16384 ∷ 8192 ∷ replicate 5 0)
    ∷ encode frodo976 (0x88 ∷ 0xC6 ∷ 0xFA ∷ []) (0 ∷ 8192 ∷ 16384 ∷ 24576 ∷ 32768 ∷ 40960 ∷ 49152 ∷ 57344 ∷ [])
    ∷ encode frodo1344 (0x21 ∷ replicate 3 0x00) (4096 ∷ 8192 ∷ replicate 6 0)
    ∷ decode frodo640 4095 0
    ∷ decode frodo640 4096 1
    ∷ decode frodo640 28671 3
    ∷ decode frodo640 28672 0
    ∷ decode frodo976 61439 7
    ∷ decode frodo976 61440 0
    ∷ decode frodo1344 2047 0
    ∷ decode frodo1344 2048 1
    ∷ decode frodo1344 63487 15
    ∷ decode frodo1344 63488 0
    ∷ sample frodo640 9286 0
    ∷ sample frodo640 9288 1
    ∷ sample frodo640 9289 65535
    ∷ sample frodo640 1 0
    ∷ sample frodo640 65532 11
    ∷ sample frodo640 65535 65524
    ∷ sample frodo976 65535 65526
    ∷ sample frodo1344 65535 65530
    ∷ judge frodo640 (worst 28672) 4096 true
    ∷ judge frodo640 (worst 4096) 4096 false
    ∷ judge frodo640 (worst 28671) 4097 false
    ∷ judge frodo640 (worst 4095) 4095 true
    ∷ judge frodo976 (worst 61440) 4096 true
    ∷ judge frodo976 (worst 4096) 4096 false
    ∷ judge frodo976 (worst 61439) 4097 false
    ∷ judge frodo976 (worst 4095) 4095 true
    ∷ judge frodo1344 (worst 63488) 2048 true
    ∷ judge frodo1344 (worst 2048) 2048 false
    ∷ judge frodo1344 (worst 63487) 2049 false
    ∷ judge frodo1344 (worst 2047) 2047 true
    ∷ []
