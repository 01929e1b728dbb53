-- Messages and their trees: exactly the trees that fit, one to one.
use Rattle.std.proofs.Common.{ℕ, zero, suc, ◌+◌, ◌<◌, ◌≤◌, ◌≡◌, ◌⊎◌, inl, inr, Bool, true, false, List, [], ◌∷◌, Option, Some, None, refl, sym, ap, ◌∙◌, arith, subst}
use Rattle.std.specs.Prelude.{codes, ◌↔◌, ◌&&◌, IsSome}
use Rattle.cap_leaf.specs.Schema.{Content, Table, leaf, all, one_of, end, row}
use Rattle.cap_leaf.specs.Trees.{Data, Children, value, branch, none, child}
use Rattle.cap_leaf.specs.declared.header.Header.{Header}
use Rattle.cap_leaf.specs.declared.kinds.Kind.{Kind}
use Rattle.cap_leaf.specs.declared.kinds.Kind.TheVariants.{Caaa001, Caaa002, Caaa003, Caaa004, Caaa005, Caaa006, Caaa007, Caaa008, Caaa009, Caaa010, Caaa011, Caaa012, Caaa013, Caaa014, Caaa015, Catm001, Catm002, Catm003, Catm004}
use Rattle.cap_trees.specs.Tables.{message}
use Rattle.cap_trees.specs.Fits.{Fits, FitsRows, in_order, no_row, FitsKind}
use Rattle.cap_fields.specs.Fields.{child_in}
use Rattle.cap_fields.proofs.Repeats.{some_same}
use Rattle.cap_sale_msgs.specs.declared.body.SaleBody.{SaleBody}
use Rattle.cap_sale_msgs.specs.declared.body.SaleBody.TheVariants.{AuthRequest, AuthAnswer, Completion, CompletionAnswer, CancelRequest, CancelAnswer, CancelAdvice, CancelAdviceAnswer}
use Rattle.cap_sale_msgs.specs.Bodies.{sale_kind}
use Rattle.cap_batch_msgs.specs.declared.body.BatchBody.{BatchBody}
use Rattle.cap_batch_msgs.specs.declared.body.BatchBody.TheVariants.{Reconcile, ReconcileAnswer, Batch as Items_of, BatchAnswer, Diagnostic, DiagnosticAnswer, Rejection}
use Rattle.cap_batch_msgs.specs.Bodies.{batch_kind}
use Rattle.cap_mgmt_msgs.specs.declared.body.MgmtBody.{MgmtBody}
use Rattle.cap_mgmt_msgs.specs.declared.body.MgmtBody.TheVariants.{Status, Plan, Part, ManagementRejection}
use Rattle.cap_mgmt_msgs.specs.Bodies.{mgmt_kind}
use Rattle.cap_sale_msgs.specs.Shapes.{HasSaleShape}
use Rattle.cap_sale_msgs.proofs.Whole.{same_body as same_sale_body}
use Rattle.cap_batch_msgs.specs.Shapes.{HasBatchShape}
use Rattle.cap_batch_msgs.proofs.Whole.{same_body as same_batch_body}
use Rattle.cap_mgmt_msgs.specs.Shapes.{HasMgmtShape}
use Rattle.cap_mgmt_msgs.proofs.Whole.{same_body as same_mgmt_body}
use Rattle.cap_msgs.specs.declared.message.Body.{Body}
use Rattle.cap_msgs.specs.declared.message.Body.TheVariants.{Sale, Batch, Management}
use Rattle.cap_msgs.specs.declared.message.Message.{Message}
use Rattle.cap_msgs.specs.declared.family.Family.{Family}
use Rattle.cap_msgs.specs.declared.family.Family.TheVariants as family
use Rattle.cap_msgs.specs.Family.{family_of}
use Rattle.cap_msgs.specs.Trees.{body_kind, body_tree, header_tree, message_kind, message_tree, first_of}
use Rattle.cap_msgs.specs.Ranges.{is_header, is_body, is_message, HasFew}
use Rattle.cap_msgs.specs.Reading.{header_in}
use Rattle.cap_msgs.specs.Shapes.{HasShape, HasHeader, HasMessage, FitsHeader, FitsBody}
use Rattle.cap_msgs.proofs.Inverts.{once_in, ends, put, and_join, both}
use Rattle.cap_msgs.proofs.HeaderShapes.{header_shape, header_fits, header_back}
use Rattle.cap_msgs.proofs.SaleShapes.{sale_001, sale_002, sale_003, sale_004, sale_005, sale_006, sale_007, sale_008, sale_body_fits}
use Rattle.cap_msgs.proofs.BatchShapes.{batch_009, batch_010, batch_011, batch_012, batch_013, batch_014, batch_015, batch_body_fits}
use Rattle.cap_msgs.proofs.MgmtShapes.{mgmt_001, mgmt_002, mgmt_003, mgmt_004, mgmt_body_fits}

-- ---- bodies

of_sale : (k : Kind) (d : Data) → HasSaleShape k d → HasShape k d
of_sale k d s = record { body = Sale s.body; kind = s.kind; range = s.range; few = tt; is = s.is }

of_batch : (k : Kind) (d : Data) → HasBatchShape k d → HasShape k d
of_batch k d s = record { body = Batch s.body; kind = s.kind; range = s.range; few = s.few; is = s.is }

of_mgmt : (k : Kind) (d : Data) → HasMgmtShape k d → HasShape k d
of_mgmt k d s = record { body = Management s.body; kind = s.kind; range = s.range; few = s.few; is = s.is }

pub body_shape : (k : Kind) (d : Data) → FitsBody k d → HasShape k d
body_shape Caaa001 d f = of_sale Caaa001 d (sale_001 d f)
body_shape Caaa002 d f = of_sale Caaa002 d (sale_002 d f)
body_shape Caaa003 d f = of_sale Caaa003 d (sale_003 d f)
body_shape Caaa004 d f = of_sale Caaa004 d (sale_004 d f)
body_shape Caaa005 d f = of_sale Caaa005 d (sale_005 d f)
body_shape Caaa006 d f = of_sale Caaa006 d (sale_006 d f)
body_shape Caaa007 d f = of_sale Caaa007 d (sale_007 d f)
body_shape Caaa008 d f = of_sale Caaa008 d (sale_008 d f)
body_shape Caaa009 d f = of_batch Caaa009 d (batch_009 d f)
body_shape Caaa010 d f = of_batch Caaa010 d (batch_010 d f)
body_shape Caaa011 d f = of_batch Caaa011 d (batch_011 d f)
body_shape Caaa012 d f = of_batch Caaa012 d (batch_012 d f)
body_shape Caaa013 d f = of_batch Caaa013 d (batch_013 d f)
body_shape Caaa014 d f = of_batch Caaa014 d (batch_014 d f)
body_shape Caaa015 d f = of_batch Caaa015 d (batch_015 d f)
body_shape Catm001 d f = of_mgmt Catm001 d (mgmt_001 d f)
body_shape Catm002 d f = of_mgmt Catm002 d (mgmt_002 d f)
body_shape Catm003 d f = of_mgmt Catm003 d (mgmt_003 d f)
body_shape Catm004 d f = of_mgmt Catm004 d (mgmt_004 d f)

pub body_fits : (b : Body) → is_body b ≡ true → HasFew b → FitsBody (body_kind b) (body_tree b)
body_fits (Sale b) h few = sale_body_fits b h
body_fits (Batch b) h few = batch_body_fits b h few
body_fits (Management b) h few = mgmt_body_fits b h few

pub shape_fits : (k : Kind) (d : Data) → HasShape k d → FitsBody k d
shape_fits k d s =
    subst (λ (j : Kind). FitsBody j d) s.kind (subst (λ (e : Data). FitsBody (body_kind s.body) e) (sym s.is) (body_fits s.body s.range s.few))

pub header_fits_back : (k : Kind) (d : Data) → HasHeader k d → FitsHeader k d
header_fits_back k d s = subst (λ (e : Data). FitsHeader k e) (sym s.is) (header_fits k s.header s.range)

-- ---- message elements

-- a header and a body
pub record IsPair (k : Kind) (d : Data) : Type 0 where
  pub header : Data
  pub body : Data
  pub is : d ≡ branch (child 0 header (child 1 body none))
  pub fits_header : FitsHeader k header
  pub fits_body : FitsBody k body

record IsSplit (head inside : Table) (d : Data) : Type 0 where
  header : Data
  body : Data
  is : d ≡ branch (child 0 header (child 1 body none))
  fits_header : Fits (all head) header
  fits_body : Fits (all inside) body

element_in : {hdr bdy : List ℕ} {head inside : Table} {d : Data} → Fits (all (row hdr 1 1 (all head) (row bdy 1 1 (all inside) end))) d → IsSplit head inside d
element_in (in_order r) =
    let a = once_in (omega arith) (omega arith) r in
    let b = once_in (omega arith) (omega arith) a.left in
    record {
      header = a.first;
      body = b.first;
      is = ap branch (a.is ∙ ap (child 0 a.first) (b.is ∙ ap (child 1 b.first) (ends b.left)));
      fits_header = a.fits;
      fits_body = b.fits;
    }

first_same : (d e : Data) (more : Children) → child 0 d none ≡ child 0 e more → e ≡ d
first_same d e more h = cc

message_in : {tag hdr bdy : List ℕ} {head inside : Table} (d : Data) → FitsRows (row tag 1 1 (all (row hdr 1 1 (all head) (row bdy 1 1 (all inside) end))) end) 0 0 (child 0 d none)
    → IsSplit head inside d
message_in {head = head} {inside = inside} d r =
    let a = once_in (omega arith) (omega arith) r in
    subst (λ (e : Data). IsSplit head inside e) (first_same d a.first a.more a.is) (element_in a.fits)

pub kind_in : (k : Kind) (d : Data) → FitsKind k d → IsPair k d
kind_in Caaa001 d f = let s = message_in d f in record { header = s.header; body = s.body; is = s.is; fits_header = s.fits_header; fits_body = s.fits_body }
kind_in Caaa002 d f = let s = message_in d f in record { header = s.header; body = s.body; is = s.is; fits_header = s.fits_header; fits_body = s.fits_body }
kind_in Caaa003 d f = let s = message_in d f in record { header = s.header; body = s.body; is = s.is; fits_header = s.fits_header; fits_body = s.fits_body }
kind_in Caaa004 d f = let s = message_in d f in record { header = s.header; body = s.body; is = s.is; fits_header = s.fits_header; fits_body = s.fits_body }
kind_in Caaa005 d f = let s = message_in d f in record { header = s.header; body = s.body; is = s.is; fits_header = s.fits_header; fits_body = s.fits_body }
kind_in Caaa006 d f = let s = message_in d f in record { header = s.header; body = s.body; is = s.is; fits_header = s.fits_header; fits_body = s.fits_body }
kind_in Caaa007 d f = let s = message_in d f in record { header = s.header; body = s.body; is = s.is; fits_header = s.fits_header; fits_body = s.fits_body }
kind_in Caaa008 d f = let s = message_in d f in record { header = s.header; body = s.body; is = s.is; fits_header = s.fits_header; fits_body = s.fits_body }
kind_in Caaa009 d f = let s = message_in d f in record { header = s.header; body = s.body; is = s.is; fits_header = s.fits_header; fits_body = s.fits_body }
kind_in Caaa010 d f = let s = message_in d f in record { header = s.header; body = s.body; is = s.is; fits_header = s.fits_header; fits_body = s.fits_body }
kind_in Caaa011 d f = let s = message_in d f in record { header = s.header; body = s.body; is = s.is; fits_header = s.fits_header; fits_body = s.fits_body }
kind_in Caaa012 d f = let s = message_in d f in record { header = s.header; body = s.body; is = s.is; fits_header = s.fits_header; fits_body = s.fits_body }
kind_in Caaa013 d f = let s = message_in d f in record { header = s.header; body = s.body; is = s.is; fits_header = s.fits_header; fits_body = s.fits_body }
kind_in Caaa014 d f = let s = message_in d f in record { header = s.header; body = s.body; is = s.is; fits_header = s.fits_header; fits_body = s.fits_body }
kind_in Caaa015 d f = let s = message_in d f in record { header = s.header; body = s.body; is = s.is; fits_header = s.fits_header; fits_body = s.fits_body }
kind_in Catm001 d f = let s = message_in d f in record { header = s.header; body = s.body; is = s.is; fits_header = s.fits_header; fits_body = s.fits_body }
kind_in Catm002 d f = let s = message_in d f in record { header = s.header; body = s.body; is = s.is; fits_header = s.fits_header; fits_body = s.fits_body }
kind_in Catm003 d f = let s = message_in d f in record { header = s.header; body = s.body; is = s.is; fits_header = s.fits_header; fits_body = s.fits_body }
kind_in Catm004 d f = let s = message_in d f in record { header = s.header; body = s.body; is = s.is; fits_header = s.fits_header; fits_body = s.fits_body }

pub kind_fits : (k : Kind) (h b : Data) → FitsHeader k h → FitsBody k b → FitsKind k (branch (child 0 h (child 1 b none)))
kind_fits Caaa001 h b f g = put (in_order (put f (put g no_row))) no_row
kind_fits Caaa002 h b f g = put (in_order (put f (put g no_row))) no_row
kind_fits Caaa003 h b f g = put (in_order (put f (put g no_row))) no_row
kind_fits Caaa004 h b f g = put (in_order (put f (put g no_row))) no_row
kind_fits Caaa005 h b f g = put (in_order (put f (put g no_row))) no_row
kind_fits Caaa006 h b f g = put (in_order (put f (put g no_row))) no_row
kind_fits Caaa007 h b f g = put (in_order (put f (put g no_row))) no_row
kind_fits Caaa008 h b f g = put (in_order (put f (put g no_row))) no_row
kind_fits Caaa009 h b f g = put (in_order (put f (put g no_row))) no_row
kind_fits Caaa010 h b f g = put (in_order (put f (put g no_row))) no_row
kind_fits Caaa011 h b f g = put (in_order (put f (put g no_row))) no_row
kind_fits Caaa012 h b f g = put (in_order (put f (put g no_row))) no_row
kind_fits Caaa013 h b f g = put (in_order (put f (put g no_row))) no_row
kind_fits Caaa014 h b f g = put (in_order (put f (put g no_row))) no_row
kind_fits Caaa015 h b f g = put (in_order (put f (put g no_row))) no_row
kind_fits Catm001 h b f g = put (in_order (put f (put g no_row))) no_row
kind_fits Catm002 h b f g = put (in_order (put f (put g no_row))) no_row
kind_fits Catm003 h b f g = put (in_order (put f (put g no_row))) no_row
kind_fits Catm004 h b f g = put (in_order (put f (put g no_row))) no_row

pub message_fits : (m : Message) → is_message m ≡ true → HasFew m.body → FitsKind (message_kind m) (message_tree m)
message_fits m h few =
    let p = both (is_header m.header) (is_body m.body) h in
    kind_fits (message_kind m) _ _ (header_fits (message_kind m) m.header p.0) (body_fits m.body p.1 few)

pub message_shape : (k : Kind) (d : Data) → FitsKind k d → HasMessage k d
message_shape k d f =
    let s = kind_in k d f in
    let h = header_shape k s.header s.fits_header in
    let b = body_shape k s.body s.fits_body in
    record {
      message = record { header = h.header; body = b.body };
      kind = b.kind;
      range = and_join (is_header h.header) (is_body b.body) h.range b.range;
      few = b.few;
      is = s.is ∙ ap (λ x. branch (child 0 x (child 1 s.body none))) (h.is ∙ ap (λ j. header_tree j h.header) (sym b.kind))
          ∙ ap (λ y. branch (child 0 (header_tree (body_kind b.body) h.header) (child 1 y none))) b.is;
    }

pub has_message_fits : (k : Kind) (d : Data) → HasMessage k d → FitsKind k d
has_message_fits k d s =
    subst (λ (j : Kind). FitsKind j d) s.kind (subst (λ (e : Data). FitsKind (message_kind s.message) e) (sym s.is) (message_fits s.message s.range s.few))

-- ---- one to one

sale_family : (b : SaleBody) → family_of (sale_kind b) ≡ family.Sale
sale_family (AuthRequest amount account) = refl
sale_family (AuthAnswer response code) = refl
sale_family (Completion ended) = refl
sale_family (CompletionAnswer response) = refl
sale_family (CancelRequest amount) = refl
sale_family (CancelAnswer response) = refl
sale_family (CancelAdvice n amount) = refl
sale_family (CancelAdviceAnswer response) = refl

batch_family : (b : BatchBody) → family_of (batch_kind b) ≡ family.Batch
batch_family (Reconcile period totals) = refl
batch_family (ReconcileAnswer response period totals) = refl
batch_family (Items_of items) = refl
batch_family (BatchAnswer response last) = refl
batch_family (Diagnostic last) = refl
batch_family (DiagnosticAnswer response last) = refl
batch_family (Rejection refused) = refl

mgmt_family : (b : MgmtBody) → family_of (mgmt_kind b) ≡ family.Management
mgmt_family (Status wanted in_force staged parts) = refl
mgmt_family (Plan actions) = refl
mgmt_family (Part part) = refl
mgmt_family (ManagementRejection refused) = refl

-- ---- which crate has the body of a message

sale_by : (k : Kind) (d : Data) (b : Body) → family_of k ≡ family.Sale → body_kind b ≡ k → is_body b ≡ true → d ≡ body_tree b → HasSaleShape k d
sale_by k d (Sale b) f e h is = record { body = b; kind = e; range = h; is = is }
sale_by k d (Batch b) f e h is = let g = sym (batch_family b) ∙ ap family_of e ∙ f in cc
sale_by k d (Management b) f e h is = let g = sym (mgmt_family b) ∙ ap family_of e ∙ f in cc

batch_by : (k : Kind) (d : Data) (b : Body) → family_of k ≡ family.Batch → body_kind b ≡ k → is_body b ≡ true → HasFew b → d ≡ body_tree b → HasBatchShape k d
batch_by k d (Batch b) f e h few is = record { body = b; kind = e; range = h; few = few; is = is }
batch_by k d (Sale b) f e h few is = let g = sym (sale_family b) ∙ ap family_of e ∙ f in cc
batch_by k d (Management b) f e h few is = let g = sym (mgmt_family b) ∙ ap family_of e ∙ f in cc

mgmt_by : (k : Kind) (d : Data) (b : Body) → family_of k ≡ family.Management → body_kind b ≡ k → is_body b ≡ true → HasFew b → d ≡ body_tree b → HasMgmtShape k d
mgmt_by k d (Management b) f e h few is = record { body = b; kind = e; range = h; few = few; is = is }
mgmt_by k d (Sale b) f e h few is = let g = sym (sale_family b) ∙ ap family_of e ∙ f in cc
mgmt_by k d (Batch b) f e h few is = let g = sym (batch_family b) ∙ ap family_of e ∙ f in cc

pub sale_shape : (k : Kind) (d : Data) → family_of k ≡ family.Sale → HasShape k d → HasSaleShape k d
sale_shape k d f s = sale_by k d s.body f s.kind s.range s.is

pub batch_shape : (k : Kind) (d : Data) → family_of k ≡ family.Batch → HasShape k d → HasBatchShape k d
batch_shape k d f s = batch_by k d s.body f s.kind s.range s.few s.is

pub mgmt_shape : (k : Kind) (d : Data) → family_of k ≡ family.Management → HasShape k d → HasMgmtShape k d
mgmt_shape k d f s = mgmt_by k d s.body f s.kind s.range s.few s.is

pub same_body : (a b : Body) → body_kind a ≡ body_kind b → body_tree a ≡ body_tree b → a ≡ b
same_body (Sale a) (Sale b) k t = ap Sale (same_sale_body a b k t)
same_body (Batch a) (Batch b) k t = ap Batch (same_batch_body a b k t)
same_body (Management a) (Management b) k t = ap Management (same_mgmt_body a b k t)
same_body (Sale a) (Batch b) k t = let e = sym (sale_family a) ∙ ap family_of k ∙ batch_family b in cc
same_body (Sale a) (Management b) k t = let e = sym (sale_family a) ∙ ap family_of k ∙ mgmt_family b in cc
same_body (Batch a) (Sale b) k t = let e = sym (batch_family a) ∙ ap family_of k ∙ sale_family b in cc
same_body (Batch a) (Management b) k t = let e = sym (batch_family a) ∙ ap family_of k ∙ mgmt_family b in cc
same_body (Management a) (Sale b) k t = let e = sym (mgmt_family a) ∙ ap family_of k ∙ sale_family b in cc
same_body (Management a) (Batch b) k t = let e = sym (mgmt_family a) ∙ ap family_of k ∙ batch_family b in cc

header_of : (m n : Message) → message_kind m ≡ message_kind n → header_tree (message_kind m) m.header ≡ header_tree (message_kind n) n.header → m.header ≡ n.header
header_of m n k t =
    some_same m.header n.header
    (sym (header_back (message_kind m) m.header) ∙ ap (header_in (first_of (message_kind m))) t ∙ ap (λ j. header_in (first_of j) (header_tree (message_kind n) n.header)) k
    ∙ header_back (message_kind n) n.header)

first_of_pair : (a b c d : Data) → branch (child 0 a (child 1 b none)) ≡ branch (child 0 c (child 1 d none)) → a ≡ c
first_of_pair a b c d e = cc

second_of_pair : (a b c d : Data) → branch (child 0 a (child 1 b none)) ≡ branch (child 0 c (child 1 d none)) → b ≡ d
second_of_pair a b c d e = cc

joined : (m n : Message) → m.header ≡ n.header → m.body ≡ n.body → m ≡ n
joined m n h b =
    let one : m ≡ record n { body = m.body } = ap (λ (x : Header). let r : Message = record { header = x; body = m.body } in r) h in
    one ∙ ap (λ (y : Body). let r : Message = record { header = n.header; body = y } in r) b

pub same_message : (m n : Message) → message_kind m ≡ message_kind n → message_tree m ≡ message_tree n → m ≡ n
same_message m n k t =
    let h = header_of m n k (first_of_pair _ _ _ _ t) in
    let b = same_body m.body n.body k (second_of_pair _ _ _ _ t) in
    joined m n h b

-- ---- what the reader of messages asks

pub header_is_some : (k : Kind) (d : Data) (o : Option Header) → HasHeader k d → o ≡ header_in (first_of k) d → IsSome o
header_is_some k d o s e =
    let P : Option Header → Type 0 = λ x. IsSome x in subst P (sym (e ∙ ap (header_in (first_of k)) s.is ∙ header_back k s.header)) refl

-- the header that is read from a tree of the shape
pub header_read : (k : Kind) (d : Data) (h : Header) → HasHeader k d → Some h ≡ header_in (first_of k) d → (d ≡ header_tree k h) × (is_header h ≡ true)
header_read k d h s e =
    let same = some_same s.header h (sym (e ∙ ap (header_in (first_of k)) s.is ∙ header_back k s.header)) in
    (s.is ∙ ap (header_tree k) same, ap is_header (sym same) ∙ s.range)

-- ---- the parts of a message element that is read

pub record IsMessageOf (k : Kind) (d : Data) (m : Message) : Type 0 where
  pub kind : message_kind m ≡ k
  pub tree : d ≡ message_tree m
  pub range : is_message m ≡ true

pub head_is_some : (k : Kind) (d : Data) → FitsKind k d → IsSome (child_in d 0)
head_is_some k d f = let P : Data → Type 0 = λ e. IsSome (child_in e 0) in subst P (sym (kind_in k d f).is) refl

pub inside_is_some : (k : Kind) (d : Data) → FitsKind k d → IsSome (child_in d 1)
inside_is_some k d f = let P : Data → Type 0 = λ e. IsSome (child_in e 1) in subst P (sym (kind_in k d f).is) refl

pub head_shape : (k : Kind) (d h : Data) → FitsKind k d → child_in d 0 ≡ Some h → HasHeader k h
head_shape k d h f e =
    let s = kind_in k d f in
    subst (λ (x : Data). HasHeader k x) (some_same s.header h (sym (ap (λ x. child_in x 0) s.is) ∙ e)) (header_shape k s.header s.fits_header)

pub inside_shape : (k : Kind) (d b : Data) → FitsKind k d → child_in d 1 ≡ Some b → HasShape k b
inside_shape k d b f e =
    let s = kind_in k d f in
    subst (λ (x : Data). HasShape k x) (some_same s.body b (sym (ap (λ x. child_in x 1) s.is) ∙ e)) (body_shape k s.body s.fits_body)

pub message_read : (k : Kind) (d h b : Data) (header : Header) (body : Body) → FitsKind k d → child_in d 0 ≡ Some h → child_in d 1 ≡ Some b
    → Some header ≡ header_in (first_of k) h → body_kind body ≡ k → b ≡ body_tree body → is_body body ≡ true → IsMessageOf k d record { header = header; body = body }
message_read k d h b header body f p q r e t g =
    let s = kind_in k d f in
    let a = some_same s.header h (sym (ap (λ x. child_in x 0) s.is) ∙ p) in
    let c = some_same s.body b (sym (ap (λ x. child_in x 1) s.is) ∙ q) in
    let w = header_read k h header (head_shape k d h f p) r in
    record {
      kind = e;
      tree = s.is ∙ ap (λ x. branch (child 0 x (child 1 s.body none))) (a ∙ w.0 ∙ ap (λ j. header_tree j header) (sym e))
          ∙ ap (λ y. branch (child 0 (header_tree (body_kind body) header) (child 1 y none))) (c ∙ t);
      range = and_join (is_header header) (is_body body) w.1 g;
    }

pub encode_fits : (k : Kind) (d : Data) (m : Message) → k ≡ message_kind m → d ≡ message_tree m → is_message m ≡ true → HasFew m.body → FitsKind k d
encode_fits k d m e t h few =
    subst (λ (j : Kind). FitsKind j d) (sym e) (subst (λ (x : Data). FitsKind (message_kind m) x) (sym t) (message_fits m h few))
