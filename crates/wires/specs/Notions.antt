-- The numbers that stand for the notions.
--     notion_number     the number of a notion
--     NotionOf          the notion with this number, or an error where no notion has it
use Rattle.std.specs.Prelude.{ℕ, ◌≡◌, Result, MatchResult}
use Rattle.wires.specs.declared.Notion.{Notion}
use Rattle.wires.specs.declared.Notion.TheVariants.{Ni, Sni}
use Rattle.wires.specs.declared.NoSuchNotion.{NoSuchNotion}

abbrev pub notion_number : Notion → ℕ
notion_number Ni = 1
notion_number Sni = 2

abbrev pub NotionOf : ℕ → Result Notion NoSuchNotion → Type 0
NotionOf number result = MatchResult result (λ notion. notion_number notion ≡ number) (λ _. (notion : Notion) → notion_number notion ≡ number → ⊥)
