-- Which tables are those of an item bank.
use Rattle.std.specs.Prelude.{◌≡◌, ℕ, ◌*◌, ◌<◌, ◌≤◌, length, ℤ, pos, negsuc, ◌≤ℤ◌, IsTrue}
use Rattle.bank_tables.specs.Items.{Set}
use Rattle.bank_tables.specs.Tables.{Tables, item, size, stimulus, categories, quantity, info, loglik}

-- from -10,000,000 to 0
abbrev pub IsLogLik : ℤ → Type 0
IsLogLik z = (negsuc 9999999 ≤ℤ z) × (z ≤ℤ pos 0)

-- the numbers of a bank are within their bounds
pub record IsBank (b : Tables) : Type 0 where
  pub some : 0 < size b
  pub few : size b ≤ 512
  pub some_points : 0 < b.grid
  pub few_points : b.grid ≤ 61
  pub few_quantities : b.quantities ≤ 8
  pub stimulus_high : (i : ℕ) → stimulus b i ≤ 64
  pub categories_low : (i : ℕ) → i < size b → 2 ≤ categories b i
  pub categories_high : (i : ℕ) → categories b i ≤ 5
  pub quantity_number : (i : ℕ) → i < size b → length (item b i).quantities ≡ b.quantities
  pub quantity_high : (i which : ℕ) → quantity b i which ≤ 65535
  pub info_number : (i : ℕ) → i < size b → length (item b i).info ≡ b.grid
  pub info_high : (i point : ℕ) → info b i point ≤ 1000000
  pub loglik_number : (i : ℕ) → i < size b → length (item b i).loglik ≡ categories b i * b.grid
  pub loglik_range : (i response point : ℕ) → IsLogLik (loglik b i response point)

-- each member of X is an item of the bank
abbrev pub HoldsItems : Tables → Set → Type 0
HoldsItems b X = (i : ℕ) → IsTrue (X i) → i < size b
