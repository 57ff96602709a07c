pub mod Leads
