-- What every queue keeps.
use Rattle.std.proofs.Common.{◌≡◌, ℕ, ◌<◌, ◌≤◌, List, length, take, drop, sym, subst}
use Rattle.std.proofs.lemmas.List.{take-append-drop}
use Rattle.std.proofs.lemmas.List.Elements.{All-from_get_or}
use Rattle.std.specs.List.{All}
use Rattle.pesp_tree.specs.declared.entry.Entry.{Entry}
use Rattle.pesp_tree.specs.Entries.{entry, ItemsDiffer}
use Rattle.pesp_tree.specs.Queues.{QueueValue, QueueKeepsLimits}
use Rattle.pesp_tree.specs.Held.{HeapIsHeld}
use Rattle.pesp_tree.proofs.Placing.{differ}

pub limits : (entries : List Entry) (waiting : ℕ) (places : List ℕ) (room memory : ℕ)
    → HeapIsHeld entries waiting places room memory → (q : QueueValue)
    → record { waiting = take waiting entries; parked = drop waiting entries; numbers = length places; room = room } ≡ q → QueueKeepsLimits q
limits entries waiting places room memory h q is = subst QueueKeepsLimits is (record {
  differ = subst ItemsDiffer (sym (take-append-drop waiting entries)) (differ entries places h.placed);
  numbered = subst (All (λ e. e.item < length places)) (sym (take-append-drop waiting entries))
      (All-from_get_or (λ e. e.item < length places) entries (entry 0 0) (λ i lt. (h.placed i lt).0));
  few = subst (λ l. length l ≤ room) (sym (take-append-drop waiting entries)) h.few;
  fewer = subst (λ l. length l ≤ length places) (sym (take-append-drop waiting entries)) h.fewer;
  numbers = h.small;
})
