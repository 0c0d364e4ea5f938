-- Arrays of JSON, as they are written item by item.
use Rattle.std.proofs.Common.{◌≡◌, ◌∙◌, refl, sym, ap, ℕ, ◌+◌, ◌<◌, List, [], ◌∷◌, ◌++◌, length, map, take, get_or, append-nil, append_assoc}
use Rattle.std.specs.List.{flat_map}
use Rattle.std.proofs.lemmas.List.{take_more, map-append}
use Rattle.json.specs.Token.{Token}
use Rattle.json.specs.Json.{Json, array}
use Rattle.json.specs.Tree.{json_tokens, items_tokens}
use Rattle.json.specs.Written.{Written}
use Rattle.pesp_timetable.specs.Objects.{Adds, json_items}

-- nothing more, and more behind more
pub adds-none : (a : Written) → Adds a a []
adds-none a = record { before = refl; tokens = sym (append-nil a.tokens) }

pub adds-more : (a b c : Written) (ts us : List Token) → Adds a b ts → Adds b c us → Adds a c (ts ++ us)
adds-more a b c ts us f g = record {
  before = g.before ∙ f.before;
  tokens = g.tokens ∙ ap (λ (l : List Token). l ++ us) f.tokens ∙ append_assoc a.tokens ts us;
}

tokens-last : (js : List Json) (j : Json) → flat_map json_tokens (js ++ j ∷ []) ≡ flat_map json_tokens js ++ json_tokens j
tokens-last [] j = append-nil (json_tokens j)
tokens-last (k ∷ js) j = ap (λ (l : List Token). json_tokens k ++ l) (tokens-last js j)
    ∙ sym (append_assoc (json_tokens k) (flat_map json_tokens js) (json_tokens j))

-- the tokens of one more item
pub tokens-more : {A : Type 0} (f : A → Json) (items : List A) (i : ℕ) (d : A) → i < length items
    → flat_map json_tokens (map f (take (i + 1) items))
    ≡ flat_map json_tokens (map f (take i items)) ++ json_tokens (f (get_or items i d))
tokens-more {A} f items i d there =
    ap (λ (l : List A). flat_map json_tokens (map f l)) (take_more items i d there)
    ∙ ap (λ (l : List Json). flat_map json_tokens l) (map-append f (take i items) (get_or items i d ∷ []))
    ∙ tokens-last (map f (take i items)) (f (get_or items i d))

-- the tokens of all items, and the closing bracket
pub items-are : (js : List Json) → items_tokens (json_items js) ≡ flat_map json_tokens js ++ Token.end_array ∷ []
items-are [] = refl
items-are (j ∷ js) = ap (λ (l : List Token). json_tokens j ++ l) (items-are js)
    ∙ sym (append_assoc (json_tokens j) (flat_map json_tokens js) (Token.end_array ∷ []))

-- the tokens of an array, from no token on
pub array-is : (a b : Written) (js : List Json) → a.tokens ≡ []
    → Adds a b (Token.begin_array ∷ (flat_map json_tokens js ++ Token.end_array ∷ []))
    → b.tokens ≡ json_tokens (array (json_items js))
array-is a b js none f =
    f.tokens ∙ ap (λ (l : List Token). l ++ Token.begin_array ∷ (flat_map json_tokens js ++ Token.end_array ∷ [])) none
    ∙ ap (λ (l : List Token). Token.begin_array ∷ l) (sym (items-are js))
