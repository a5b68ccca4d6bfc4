-- What groups and items read, as steps of the run.
--     Within            what holds of the progress wherever a part of a text is read
--     Sized             the sizes of the text and of the table read into
--     Reached           going on with the run from one state equals going on from another, for which the progress then stands
--     ItemByte, Ends    a byte that begins an item; the places where a group ends
--     outside           the group around, with the place of the parenthesis
--     ItemWent, GroupWent, CloseWent, Stops    where the reading goes on; where it stops
--     ItemReads, GroupReads, CloseReads        what the answer of each part says
--     entered           the progress past an opening parenthesis
use Rattle.std.specs.Prelude.{ℕ, ◌+◌, ◌≤◌, ◌<◌, ◌≡◌, List, ◌∷◌, length, get_or, Result, Ok, Err}
use Rattle.limits.specs.Limits.{max_shares, max_table_bytes}
use Rattle.record_words.specs.Symbols.{Small}
use Rattle.description.specs.Bytes.{space, line_end, closing}
use Rattle.description.specs.Listing.{empty_group}
use Rattle.description.specs.Run.{Around, State, refused, run_at, max_text, max_depth}
use Rattle.description.specs.declared.Fault.{Fault}
use Rattle.description.specs.declared.Group.{Group}
use Rattle.description.specs.declared.Refusal.{Refusal}
use Rattle.listing.specs.declared.Progress.{Progress}
use Rattle.listing.specs.Progress.{Stands}

-- each wire has a byte of its own before it, but those of the lines' ends
pub record Within (size : ℕ) (p : Progress) : Type 0 where
  pub inside : p.at ≤ size
  pub few : p.wires ≤ p.at + p.lines
  pub begun : p.group.first ≤ p.at
  pub small : Small p.last.symbol

pub record Sized (text table : List ℕ) (shares : ℕ) : Type 0 where
  pub text_size : length text ≤ max_text
  pub table_size : length table ≡ max_table_bytes
  pub most : shares ≤ max_shares

pub record ItemByte (c : ℕ) : Type 0 where
  pub no_space : c ≡ space → ⊥
  pub no_end : c ≡ line_end → ⊥
  pub no_closing : c ≡ closing → ⊥

unfoldable pub Ends : List ℕ → ℕ → Type 0
Ends text at = at < length text → (get_or text at 0 ≡ closing → ⊥) → get_or text at 0 ≡ line_end

abbrev pub entered : Progress → Progress
entered p = record {
  at = p.at + 1;
  wires = p.wires;
  seen = p.seen;
  lines = p.lines;
  added = p.added;
  last = p.last;
  group = empty_group;
}

-- the state that the run reaches at the place of q, with the given groups around
pub record Reached (shares declared : ℕ) (text : List ℕ) (at : ℕ) (s : State) (around : List Around) (table : List ℕ) (q : Progress) : Type 0 where
  pub state : State
  pub stands : Stands table q state
  pub enclosed : state.around ≡ around
  pub goes : run_at shares declared text at s ≡ run_at shares declared text q.at state

module _ (shares declared : ℕ) (text : List ℕ) where
  pub record ItemWent (room : ℕ) (table : List ℕ) (p : Progress) (table' : List ℕ) (q : Progress) : Type 0 where
    pub within : Within (length text) q
    pub same_lines : q.lines ≡ p.lines
    pub forward : p.at < q.at
    pub reached : (s : State) → Stands table p s → length s.around + room ≡ max_depth
        → Reached shares declared text p.at s s.around table' q

  pub record GroupWent (room : ℕ) (table : List ℕ) (p : Progress) (table' : List ℕ) (q : Progress) : Type 0 where
    pub within : Within (length text) q
    pub same_lines : q.lines ≡ p.lines
    pub forward : p.at ≤ q.at
    pub ends : Ends text q.at
    pub reached : (s : State) → Stands table p s → length s.around + room ≡ max_depth
        → Reached shares declared text p.at s s.around table' q

  unfoldable pub Stops : ℕ → List ℕ → Progress → Refusal → ℕ → Type 0
  Stops room table p why offset =
      (s : State) → Stands table p s → length s.around + room ≡ max_depth → run_at shares declared text p.at s ≡ refused why offset

  abbrev pub ItemReads : ℕ → List ℕ → Progress → List ℕ → Result Progress Fault → Type 0
  ItemReads room table p table' (Ok q) = ItemWent room table p table' q
  ItemReads room table p table' (Err fault) = Stops room table p fault.why fault.offset

  abbrev pub GroupReads : ℕ → List ℕ → Progress → List ℕ → Result Progress Fault → Type 0
  GroupReads room table p table' (Ok q) = GroupWent room table p table' q
  GroupReads room table p table' (Err fault) = Stops room table p fault.why fault.offset

  -- the group around, and the place of the parenthesis opened in it
  abbrev pub outside : Group → ℕ → Around
  outside outer from = record { group = outer; opened = from }

  pub record CloseWent (outer : Group) (from : ℕ) (table : List ℕ) (p : Progress) (table' : List ℕ) (q : Progress) : Type 0 where
    pub within : Within (length text) q
    pub same_lines : q.lines ≡ p.lines
    pub forward : p.at < q.at
    pub reached : (s : State) (around : List Around) → Stands table p s → s.around ≡ outside outer from ∷ around
        → Reached shares declared text p.at s around table' q

  abbrev pub CloseReads : Group → ℕ → List ℕ → Progress → List ℕ → Result Progress Fault → Type 0
  CloseReads outer from table p table' (Ok q) = CloseWent outer from table p table' q
  CloseReads outer from table p table' (Err fault) =
      (s : State) (around : List Around) → Stands table p s → s.around ≡ outside outer from ∷ around
      → run_at shares declared text p.at s ≡ refused fault.why fault.offset
